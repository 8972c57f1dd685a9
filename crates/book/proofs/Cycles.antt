-- The cycles along a route, noted one by one.
-- Assumes nothing.
use Rattle.std.proofs.Common.{◌≡◌, ℕ, ◌+◌, ◌<◌, List, [], ◌∷◌, ◌++◌, length, get_or, take, set, Some, None, Option, sym, refl, ap, ◌∙◌, subst, arith}
use Rattle.std.proofs.lemmas.List.{take_more, take_more_set}
use Rattle.stage.specs.Stages.{Stage}
use Rattle.stage.specs.Periods.{Divides, IsMacroPeriod}
use Rattle.stage.proofs.Divisors.{zero_divides}
use Rattle.platform.specs.Platforms.{described}
use Rattle.book.specs.Ledgers.{cycle_of, RoutedOrNot}

pub cycle_noted : (o : Option Stage) (c k r : ℕ) → Some (c, k, r) ≡ described o → c ≡ cycle_of o
cycle_noted None c k r e = let z : ◌≡◌ {A = ℕ} 0 1 = cc in absurd (omega arith)
cycle_noted (Some s) c k r e = first (described_parts (sym e))
  where
    described_parts : {x y : ℕ × ℕ × ℕ} → Some x ≡ Some y → x ≡ y
    described_parts e = cc

    first : {x y : ℕ × ℕ × ℕ} → x ≡ y → y.0 ≡ x.0
    first e = sym (ap (λ p. p.0) e)

pub cycle_missing : (o : Option Stage) → None ≡ described o → cycle_of o ≡ 0
cycle_missing None e = refl
cycle_missing (Some s) e = let z : ◌≡◌ {A = ℕ} 0 1 = cc in absurd (omega arith)

-- one more number of a list is copied
pub copied_more : (copy from : List ℕ) (i v : ℕ) → i < length copy → i < length from → take i copy ≡ take i from
    → v ≡ get_or from i 0 → take (i + 1) (set copy i v) ≡ take (i + 1) from
copied_more copy from i v h k before e =
    take_more_set copy i v h ∙ ap (λ xs. xs ++ v ∷ []) before ∙ ap (λ x. take i from ++ x ∷ []) e ∙ sym (take_more from i 0 k)

-- cycles among which one is missing have no common multiple
pub period_none : (cycles : List ℕ) (i : ℕ) → i < length cycles → get_or cycles i 0 ≡ 0 → IsMacroPeriod cycles None
period_none cycles i h e m common =
    absurd (zero_divides m common.positive (subst (λ n. Divides n m) e (common.divided i h)))

-- what holds of a route with entries
pub with_entries : (route : List ℕ) (P Q : Type 0) → 0 < length route → Q → RoutedOrNot route P Q
with_entries [] P Q h q = absurd (omega arith)
with_entries (x ∷ xs) P Q h q = q
