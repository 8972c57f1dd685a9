-- The check of a record against its limits.
-- Assumes nothing.
use Rattle.std.specs.Prelude.{◌≡◌, false, cond, Some, None, Option, Result, MatchResult}
use Rattle.platform.specs.declared.record.Record.{Record}
use Rattle.platform.specs.declared.lawful_record.LawfulRecord.{LawfulRecord}
use Rattle.platform.specs.declared.lawful_record.RecordFault.{RecordFault}
use Rattle.platform.specs.declared.lawful_record.RecordFault.TheVariants.{Period, Offset, Response}
use Rattle.platform.specs.Records.{in_range, period_in_range, offset_in_range, response_in_range}

-- the first limit that the record is outside of
abbrev pub fault_of : Record → Option RecordFault
fault_of r =
    cond (period_in_range r) (cond (offset_in_range r) (cond (response_in_range r) None (Some Response)) (Some Offset)) (Some Period)

-- the record itself where it is within all limits, and otherwise its fault
abbrev pub Checks : Record → Result LawfulRecord RecordFault → Type 0
Checks r result = MatchResult result (λ l. (l.record ≡ r) × (fault_of r ≡ None)) (λ fault. (fault_of r ≡ Some fault) × (in_range r ≡ false))
