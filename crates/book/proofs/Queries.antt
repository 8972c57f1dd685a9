-- Which refusal a query comes to, check by check.
-- Assumes nothing.
use Rattle.std.proofs.Common.{◌≡◌, ℕ, zero, suc, ◌<◌, ◌≤◌, List, [], ◌∷◌, length, Some, None, Option, sym, refl, ap, ◌∙◌, subst, inl, inr, arith, MatchOption}
use Rattle.std.specs.Option.{option_map}
use Rattle.stage.specs.Stages.{Stage}
use Rattle.path.specs.Numbering.{semantics_number}
use Rattle.path.specs.Refusals.{Accepted, Refused, HasMacroPeriod, RightLength}
use Rattle.path.specs.declared.semantics.Semantics.{Semantics}
use Rattle.path.specs.declared.semantics.Semantics.TheVariants.{LL, LF, FL, FF}
use Rattle.path.specs.declared.delay.SearchFault.{SearchFault}
use Rattle.path.specs.declared.delay.SearchFault.TheVariants.{Length, MacroPeriod, Buffer}
use Rattle.book.specs.Faults.{Refusal, at_0, analysis_fault, search_fault}
use Rattle.book.specs.Ledgers.{View, RefusedWhere, QueryRefusal, absent_at, entry_stage, first_absent, stages_along}

pub none_absent : (o : Option ℕ) → None ≡ option_map absent_at o → o ≡ None
none_absent None e = refl
none_absent (Some n) e = let z : ◌≡◌ {A = ℕ} 0 1 = cc in absurd (omega arith)

-- what the check of a list that is the route leaves
pub all_there : (stage : ℕ → Option Stage) (xs entries : List ℕ) → xs ≡ entries
    → None ≡ option_map absent_at (first_absent stage xs) → first_absent stage entries ≡ None
all_there stage xs entries same e = ap (first_absent stage) (sym same) ∙ none_absent _ e

-- a number that no semantics has is above 3
pub above_three : (n : ℕ) → ((m : Semantics) → semantics_number m ≡ n → ⊥) → 3 < n
above_three zero none = absurd (none LL refl)
above_three (suc zero) none = absurd (none LF refl)
above_three (suc (suc zero)) none = absurd (none FL refl)
above_three (suc (suc (suc zero))) none = absurd (none FF refl)
above_three (suc (suc (suc (suc n)))) none = omega arith

pub number_low : (m : Semantics) → semantics_number m ≤ 3
number_low LL = omega arith
number_low LF = omega arith
number_low FL = omega arith
number_low FF = omega arith

no_entries : (entries : List ℕ) → ¬ (0 < length entries) → entries ≡ []
no_entries [] none = refl
no_entries (x ∷ xs) none = absurd (none (omega arith))

module _ (v : View) (semantics room : ℕ) (present : first_absent (entry_stage v) v.ledger.route ≡ None) where
  from_10 : (answer : Option Refusal)
      → RefusedWhere 10 (3 < semantics)
      (RefusedWhere 11 (v.ledger.route ≡ [])
      (RefusedWhere 12 (¬ HasMacroPeriod (stages_along v))
      (RefusedWhere 13 (room < length v.ledger.route) (λ none. none ≡ None)))) answer
      → QueryRefusal v semantics room answer
  from_10 answer checks =
      subst
      (λ o. MatchOption o
      (RefusedWhere 10 (3 < semantics)
      (RefusedWhere 11 (v.ledger.route ≡ [])
      (RefusedWhere 12 (¬ HasMacroPeriod (stages_along v))
      (RefusedWhere 13 (room < length v.ledger.route) (λ none. none ≡ None)))) answer)
      (λ position. answer ≡ Some (absent_at position)))
      (sym present) checks

  pub refused_10 : 3 < semantics → QueryRefusal v semantics room (Some (at_0 10))
  refused_10 h = from_10 (Some (at_0 10)) (inl (h, refl))

  pub refused_11 : semantics ≤ 3 → v.ledger.route ≡ [] → QueryRefusal v semantics room (Some (at_0 11))
  refused_11 h none = from_10 (Some (at_0 11)) (inr (λ k. omega arith, inl (none, refl)))

  -- what the search along the stages refuses, the query does
  module _ (low : semantics ≤ 3) (few : length v.ledger.route ≤ 16)
      (long : length (stages_along v) ≡ length v.ledger.route) where
    routed : RightLength (stages_along v) → ¬ (v.ledger.route ≡ [])
    routed right e = omega (arith, right.0, ap length e)

    pub refused_search : (fault : SearchFault) → Refused fault (stages_along v) room
        → QueryRefusal v semantics room (Some (analysis_fault (search_fault fault)))
    refused_search Length h = refused_11 low (no_entries v.ledger.route (λ some. h (omega arith, omega arith)))
    refused_search MacroPeriod h =
        from_10 (Some (at_0 12)) (inr (λ k. omega arith, inr (routed h.0, inl (h.1, refl))))
    refused_search Buffer h =
        from_10 (Some (at_0 13)) (inr (λ k. omega arith, inr (routed h.0, inr (λ no. no h.1, inl (omega (arith, h.2), refl)))))

    pub accepted_search : Accepted (stages_along v) room → QueryRefusal v semantics room None
    accepted_search h =
        from_10 None (inr (λ k. omega arith, inr (routed h.0, inr (λ no. no h.1, inr (λ k. omega (arith, h.2), refl)))))
