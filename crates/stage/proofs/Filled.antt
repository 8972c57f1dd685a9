-- A row's starts or stops, while marks are written one after the other.
-- Assumes nothing.
use Rattle.std.proofs.Common.{◌≡◌, ℕ, ◌+◌, ◌<◌, ◌≤◌, List, map, length, get_or, set, replicate, ⊎_elim, sym, refl, subst, ◌∙◌, below_more, get_or-set_other, get_or-set_same, arith}
use Rattle.std.specs.List.{range_with_len}
use Rattle.std.proofs.lemmas.Bool.{cases_lt}
use Rattle.std.proofs.lemmas.List.{get_or_past, get_or-replicate, length-set}
use Rattle.std.proofs.lemmas.List.FromFn.{fill_by_all}

-- the first n of 48 places hold a function's values, and the others 0
pub record Filled (v : ℕ → ℕ) (n : ℕ) (xs : List ℕ) : Type 0 where
  pub long : length xs ≡ 48
  pub front : (k : ℕ) → k < n → get_or xs k 0 ≡ v k
  pub rest : (k : ℕ) → n ≤ k → get_or xs k 0 ≡ 0

pub filled_none : (v : ℕ → ℕ) (xs : List ℕ) → xs ≡ replicate 48 0 → Filled v 0 xs
filled_none v xs e =
    subst (Filled v 0) (sym e)
    (record {
      long = refl;
      front = λ k h. absurd (omega arith);
      rest = λ k h. ⊎_elim (get_or-replicate 48 k 0 0) (get_or_past (replicate 48 0) k 0) (cases_lt k 48);
    })

pub filled_more : (v : ℕ → ℕ) (n x : ℕ) (xs : List ℕ) → Filled v n xs → n < 48 → x ≡ v n → Filled v (n + 1) (set xs n x)
filled_more v n x xs f h e =
    record {
      long = length-set xs n x ∙ f.long;
      front =
          below_more _ n (λ k l. get_or-set_other xs n k x 0 (omega arith) ∙ f.front k l)
          (get_or-set_same xs n x 0 (omega (arith, f.long)) ∙ e);
      rest = λ k l. get_or-set_other xs n k x 0 (omega arith) ∙ f.rest k (omega arith);
    }

pub filled_all : (v : ℕ → ℕ) (n : ℕ) (xs : List ℕ) → Filled v n xs → ((k : ℕ) → n ≤ k → v k ≡ 0)
    → xs ≡ map v (range_with_len 0 48)
filled_all v n xs f none =
    fill_by_all v xs 48 0 f.long (λ k h. ⊎_elim (f.front k) (λ l. f.rest k l ∙ sym (none k l)) (cases_lt k n))
