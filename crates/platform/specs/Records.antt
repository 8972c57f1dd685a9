-- A record of period, offset, response and rank, and the stage that it means.
-- Assumes nothing.
use Rattle.std.specs.Prelude.{ℕ, ◌+◌, Bool, cond, ◌&&◌, List, [], ◌∷◌, ◌++◌, Some, None, Option, nat_le, nat_lt, codes}
use Rattle.std.specs.Fmt.{decimal}
use Rattle.std.specs.Option.{option_map}
use Rattle.std.specs.List.{slice_get}
use Rattle.stage.specs.Stages.{Stage}
use Rattle.platform.specs.declared.record.Record.{Record}

-- a period is 100 to 1,000,000 microseconds; written out, so that another constant in the code is refused
abbrev pub period_in_range : Record → Bool
period_in_range r = nat_le 100 r.period && nat_le r.period 1_000_000

-- an offset is below the period
abbrev pub offset_in_range : Record → Bool
offset_in_range r = nat_lt r.offset r.period

-- a response is above 0 and not above the period
abbrev pub response_in_range : Record → Bool
response_in_range r = nat_lt 0 r.response && nat_le r.response r.period

-- a record within all limits; a rank is a byte
abbrev pub in_range : Record → Bool
in_range r = period_in_range r && (offset_in_range r && (response_in_range r && nat_le r.rank 255))

-- a record in words
abbrev pub record_text : Record → List ℕ
record_text r =
    codes "period " ++ decimal r.period ++ codes " offset " ++ decimal r.offset ++ codes " response " ++ decimal r.response
    ++ codes " rank " ++ decimal r.rank

-- The stage has the period as its cycle and one mark, which starts at the offset and stops a response later.
abbrev pub record_stage : Record → Stage
record_stage r = record { cycle = r.period; rank = r.rank; marks = (r.offset, r.offset + r.response) ∷ [] }

-- The record of a metronome's stage p, for p from 0 to 127; a record outside the limits is absent.
unfoldable pub metronome_record : List Record → ℕ → Option Record
metronome_record records p =
    cond (nat_lt p 128) (elim (slice_get records p) [ None ↦ None | Some r ↦ cond (in_range r) (Some r) None ]) None

-- stage p of a metronome is its record's
abbrev pub metronome_stage : List Record → ℕ → Option Stage
metronome_stage records p = option_map record_stage (metronome_record records p)
