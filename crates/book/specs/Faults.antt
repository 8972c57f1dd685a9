-- The number and place of each refusal.
-- Assumes nothing.
use Rattle.std.specs.Prelude.{ℕ, Some, None, Ok, Err, Option, Result}
use Rattle.book.specs.declared.fault.TaskFault.{TaskFault}
use Rattle.book.specs.declared.fault.TaskFault.TheVariants.{Number, Record, Full, NotHeld, OnRoute}
use Rattle.platform.specs.declared.lawful_record.RecordFault.{RecordFault}
use Rattle.platform.specs.declared.lawful_record.RecordFault.TheVariants.{Period, Offset, Response}
use Rattle.book.specs.declared.fault.RouteFault.{RouteFault}
use Rattle.book.specs.declared.fault.RouteFault.TheVariants.{Task, Length, Absent}
use Rattle.book.specs.declared.fault.AnalysisFault.{AnalysisFault}
use Rattle.book.specs.declared.fault.AnalysisFault.TheVariants.{Route, Semantics, NoRoute, MacroPeriod, Buffer}
use Rattle.path.specs.declared.delay.SearchFault.{SearchFault}
use Rattle.path.specs.declared.delay.SearchFault.TheVariants.{Length as no_length, MacroPeriod as no_period, Buffer as no_room}

-- what a call is refused by
pub record Refusal : Type 0 where
  pub number : ℕ
  pub place : ℕ

abbrev pub at_0 : ℕ → Refusal
at_0 n = record { number = n; place = 0 }

abbrev pub record_fault : RecordFault → Refusal
record_fault Period = at_0 2
record_fault Offset = at_0 3
record_fault Response = at_0 4

abbrev pub task_fault : TaskFault → Refusal
task_fault Number = at_0 1
task_fault (Record fault) = record_fault fault
task_fault Full = at_0 5
task_fault NotHeld = at_0 6
task_fault OnRoute = at_0 7

abbrev pub route_fault : RouteFault → Refusal
route_fault (Task fault) = task_fault fault
route_fault Length = at_0 8
route_fault (Absent position) = record { number = 9; place = position }

abbrev pub analysis_fault : AnalysisFault → Refusal
analysis_fault (Route fault) = route_fault fault
analysis_fault Semantics = at_0 10
analysis_fault NoRoute = at_0 11
analysis_fault MacroPeriod = at_0 12
analysis_fault Buffer = at_0 13

-- a fault of the search by itself
abbrev pub search_refusal : SearchFault → Refusal
search_refusal no_length = at_0 8
search_refusal no_period = at_0 12
search_refusal no_room = at_0 13

-- what a fault of the search is to the book
abbrev pub search_fault : SearchFault → AnalysisFault
search_fault no_length = NoRoute
search_fault no_period = MacroPeriod
search_fault no_room = Buffer

-- the refusal in a call's answer, where `fault` gives the number and place of what it holds
abbrev pub refused_by : {X F : Type 0} → (F → Refusal) → Result X F → Option Refusal
refused_by fault (Ok x) = None
refused_by fault (Err f) = Some (fault f)
