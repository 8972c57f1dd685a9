-- The numbers on a route.
-- Assumes nothing.
use Rattle.std.proofs.Common.{◌≡◌, ℕ, zero, suc, ◌<◌, Bool, true, false, cond, ◌||◌, eqb, List, [], ◌∷◌, length, get_or, is_some, Some, None, Option, sym, refl, ap, ◌∙◌, ⊎_elim, arith}
use Rattle.std.specs.List.{list_any}
use Rattle.std.proofs.lemmas.Bool.{or_parts, cases_Bool, eq-eqb, ne_eqb, eqb-true, eqb-false, cond-true, cond-false}
use Rattle.std.specs.Option.{option_map}
use Rattle.stage.specs.Stages.{Stage}
use Rattle.platform.specs.Platforms.{described}
use Rattle.book.specs.Ledgers.{on_route, first_absent}

eqb_comm : (a b : ℕ) → eqb a b ≡ eqb b a
eqb_comm a b =
    ⊎_elim (λ e. e ∙ sym (eq-eqb b a (sym (eqb-true a b e)))) (λ e. e ∙ sym (ne_eqb b a (λ h. eqb-false a b e (sym h))))
    (cases_Bool (eqb a b))

-- whether a number is on the route, by the library's word
pub on_route-any : (entries : List ℕ) (n : ℕ) → list_any (λ (e : ℕ). eqb e n) entries ≡ on_route entries n
on_route-any [] n = refl
on_route-any (x ∷ xs) n = ap (λ b. b || list_any (λ (e : ℕ). eqb e n) xs) (eqb_comm x n) ∙ ap (λ b. eqb n x || b) (on_route-any xs n)

-- a number that is not on the route is none of its entries
pub off_route : (entries : List ℕ) (n k : ℕ) → on_route entries n ≡ false → k < length entries → get_or entries k 0 ≡ n → ⊥
off_route [] n k off h e = omega arith
off_route (x ∷ xs) n zero off h e = eqb-false n x (or_parts (eqb n x) _ off).0 (sym e)
off_route (x ∷ xs) n (suc k) off h e = off_route xs n k (or_parts (eqb n x) _ off).1 (omega arith) e

some_none : {n : ℕ} → Some n ≡ None → ⊥
some_none e = let z : ◌≡◌ {A = ℕ} 0 1 = cc in omega arith

none_first : (b : Bool) (o : Option ℕ) → cond b (option_map suc o) (Some 0) ≡ None → (b ≡ true) × (o ≡ None)
none_first true None e = (refl, refl)
none_first true (Some n) e = absurd (some_none e)
none_first false o e = absurd (some_none e)

pub described_some : (o : Option Stage) → is_some (described o) ≡ is_some o
described_some None = refl
described_some (Some s) = refl

-- the search for the first entry that is neither held nor present
module _ (stage : ℕ → Option Stage) where
  pub absent_here : (entries : List ℕ) (i : ℕ) → i < length entries
      → ((k : ℕ) → k < i → is_some (stage (get_or entries k 0)) ≡ true) → is_some (stage (get_or entries i 0)) ≡ false
      → first_absent stage entries ≡ Some i
  absent_here [] i h before here = absurd (omega arith)
  absent_here (x ∷ xs) zero h before here = cond-false _ _ _ here
  absent_here (x ∷ xs) (suc i) h before here =
      cond-true _ _ _ (before 0 (omega arith))
      ∙ ap (option_map suc) (absent_here xs i (omega arith) (λ k l. before (suc k) (omega arith)) here)

  pub absent_nowhere : (entries : List ℕ) → ((k : ℕ) → k < length entries → is_some (stage (get_or entries k 0)) ≡ true)
      → first_absent stage entries ≡ None
  absent_nowhere [] all = refl
  absent_nowhere (x ∷ xs) all =
      cond-true _ _ _ (all 0 (omega arith)) ∙ ap (option_map suc) (absent_nowhere xs (λ k l. all (suc k) (omega arith)))

  -- where none is absent, each entry is held or present
  pub present_all : (entries : List ℕ) → first_absent stage entries ≡ None
      → (k : ℕ) → k < length entries → is_some (stage (get_or entries k 0)) ≡ true
  present_all [] e k h = absurd (omega arith)
  present_all (x ∷ xs) e zero h = (none_first (is_some (stage x)) (first_absent stage xs) e).0
  present_all (x ∷ xs) e (suc k) h =
      present_all xs (none_first (is_some (stage x)) (first_absent stage xs) e).1 k (omega arith)
