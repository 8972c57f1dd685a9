-- The ledger: what a book holds, as a plain value, and what each call does to it or is refused by.
-- Assumes nothing.
use Rattle.std.specs.Prelude.{◌≡◌, ℕ, zero, suc, ◌+◌, ◌-◌, ◌<◌, Bool, false, cond, not, ◌&&◌, ◌||◌, ◌⊎◌, List, [], ◌∷◌, map, length, is_some, Some, None, Option, MatchOption, ◌==◌, nat_eq, nat_le, nat_lt}
use Rattle.std.specs.Map.{update}
use Rattle.std.specs.Option.{option_map}
use Rattle.std.specs.List.{slice_get}
use Rattle.stage.specs.Stages.{Stage}
use Rattle.stage.specs.Periods.{IsMacroPeriod}
use Rattle.path.specs.Refusals.{HasMacroPeriod}
use Rattle.platform.specs.declared.record.Record.{Record}
use Rattle.platform.specs.Records.{period_in_range, offset_in_range, response_in_range, record_stage}
use Rattle.book.specs.Faults.{Refusal, at_0}

-- the records by number, and the route, which is empty where there is none
pub record Ledger : Type 0 where
  pub records : ℕ → Option Record
  pub route : List ℕ

-- What a book says to its reader: the stages of its platform by number, and its ledger.
pub record View : Type 0 where
  pub platform : ℕ → Option Stage
  pub ledger : Ledger

-- how many of the numbers below n are held
unfoldable pub held_count : (ℕ → Option Record) → ℕ → ℕ
held_count records zero = 0
held_count records (suc n) = cond (is_some (records n)) (held_count records n + 1) (held_count records n)

abbrev pub on_route : List ℕ → ℕ → Bool
on_route [] n = false
on_route (entry ∷ entries) n = n == entry || on_route entries n

-- a refusal by a number at place 0, where the test holds
abbrev pub refuse : ℕ → Bool → Option Refusal
refuse number test = cond test (Some (at_0 number)) None

-- the checks run in order, and the first refusal is the one that comes
infixr 20 ◌then◌
abbrev pub ◌then◌ : Option Refusal → Option Refusal → Option Refusal
None then later = later
Some refusal then later = Some refusal

abbrev pub number_refusal : ℕ → Option Refusal
number_refusal n = refuse 1 (nat_lt 127 n)

abbrev pub record_refusal : Record → Option Refusal
record_refusal r =
    refuse 2 (not (period_in_range r)) then refuse 3 (not (offset_in_range r)) then refuse 4 (not (response_in_range r))

-- enter: sets the record of its number
abbrev pub enter_refusal : Ledger → ℕ → Record → Option Refusal
enter_refusal l n r =
    number_refusal n then record_refusal r
    then refuse 5 (not (is_some (l.records n)) && nat_le 32 (held_count l.records 128))

abbrev pub with_record : Ledger → ℕ → Option Record → Ledger
with_record l n r = record { records = update nat_eq l.records n r; route = l.route }

-- a refused call leaves the ledger as it is
abbrev pub unless_refused : Option Refusal → Ledger → Ledger → Ledger
unless_refused refusal before after = cond (is_some refusal) before after

abbrev pub entered : Ledger → ℕ → Record → Ledger
entered l n r = unless_refused (enter_refusal l n r) l (with_record l n (Some r))

-- retire: removes the record of its number
abbrev pub retire_refusal : Ledger → ℕ → Option Refusal
retire_refusal l n =
    number_refusal n then refuse 6 (not (is_some (l.records n))) then refuse 7 (on_route l.route n)

abbrev pub retired : Ledger → ℕ → Ledger
retired l n = unless_refused (retire_refusal l n) l (with_record l n None)

-- The stage of a route entry: below 128 a title task's, by its record; from 128 on the platform's.
abbrev pub entry_stage : View → ℕ → Option Stage
entry_stage v entry = cond (nat_lt entry 128) (option_map record_stage (v.ledger.records entry)) (v.platform (entry - 128))

-- the first position whose entry is neither held nor present
abbrev pub first_absent : (ℕ → Option Stage) → List ℕ → Option ℕ
first_absent stage [] = None
first_absent stage (entry ∷ entries) = cond (is_some (stage entry)) (option_map suc (first_absent stage entries)) (Some 0)

abbrev pub absent_at : ℕ → Refusal
absent_at position = record { number = 9; place = position }

-- a route has 1 to 16 entries
abbrev pub outside_lengths : List ℕ → Bool
outside_lengths entries = length entries == 0 || nat_lt 16 (length entries)

-- route: sets the route to its list
abbrev pub route_refusal : View → List ℕ → Option Refusal
route_refusal v entries =
    refuse 8 (outside_lengths entries)
    then option_map absent_at (first_absent (entry_stage v) entries)

abbrev pub routed : View → List ℕ → Ledger
routed v entries =
    unless_refused (route_refusal v entries) v.ledger (record { records = v.ledger.records; route = entries })

-- the stage at a position of the route
abbrev pub stage_at : View → ℕ → Option Stage
stage_at v position = elim (slice_get v.ledger.route position) [ None ↦ None | Some entry ↦ entry_stage v entry ]

-- the cycle of a stage; an absent one has none, 0
abbrev pub cycle_of : Option Stage → ℕ
cycle_of None = 0
cycle_of (Some s) = s.cycle

abbrev pub cycles_along : View → List ℕ
cycles_along v = map (λ entry. cycle_of (entry_stage v entry)) v.ledger.route

-- without a route the one fact, with a route the other
abbrev pub RoutedOrNot : List ℕ → Type 0 → Type 0 → Type 0
RoutedOrNot [] without with = without
RoutedOrNot (entry ∷ entries) without with = with

-- the macro-period of the route, where there is one
abbrev pub RoutePeriod : View → Option ℕ → Type 0
RoutePeriod v answer = RoutedOrNot v.ledger.route (answer ≡ None) (IsMacroPeriod (cycles_along v) answer)

-- the stages along the route, in its order
abbrev pub present_stages : List (Option Stage) → List Stage
present_stages [] = []
present_stages (None ∷ stages) = present_stages stages
present_stages (Some s ∷ stages) = s ∷ present_stages stages

abbrev pub stages_along : View → List Stage
stages_along v = present_stages (map (entry_stage v) v.ledger.route)

-- Where a fact holds, the call is refused by a number, and otherwise the later checks decide.
abbrev pub RefusedWhere : ℕ → Type 0 → (Option Refusal → Type 0) → Option Refusal → Type 0
RefusedWhere number fact later answer = (fact × (answer ≡ Some (at_0 number))) ⊎ ((¬ fact) × later answer)

-- query: which refusal comes, if any, for a semantics by its number and a buffer with so much room
abbrev pub QueryRefusal : View → ℕ → ℕ → Option Refusal → Type 0
QueryRefusal v semantics room answer =
    MatchOption (first_absent (entry_stage v) v.ledger.route)
    (RefusedWhere 10 (3 < semantics)
    (RefusedWhere 11 (v.ledger.route ≡ [])
    (RefusedWhere 12 (¬ HasMacroPeriod (stages_along v))
    (RefusedWhere 13 (room < length v.ledger.route)
    (λ none. none ≡ None)))) answer)
    (λ position. answer ≡ Some (absent_at position))
