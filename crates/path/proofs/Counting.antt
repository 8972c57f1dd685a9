-- How many values of a rising function lie below a bound.
-- Assumes nothing.
use Rattle.std.proofs.Common.{◌≡◌, ℕ, zero, suc, ◌+◌, ◌<◌, ◌≤◌, ltb, ap, subst, ⊎_elim, add-one, arith}
use Rattle.path.specs.Steps.{count_to, count_below}
use Rattle.std.proofs.lemmas.Bool.{cases_lt, ltb-true, ltb-false, cond_both}

abbrev pub Rising : (ℕ → ℕ) → Type 0
Rising f = (i j : ℕ) → i < j → f i < f j

pub rising_le : (f : ℕ → ℕ) → Rising f → (i j : ℕ) → i ≤ j → f i ≤ f j
rising_le f up i j l =
    ⊎_elim (λ k. omega (arith, up i j k)) (λ k. let e : f i ≡ f j = ap f (omega arith) in omega arith) (cases_lt i j)

pub record Counted (f : ℕ → ℕ) (t n c : ℕ) : Type 0 where
  pub few : c ≤ n
  pub there : (i : ℕ) → i < c → f i < t
  pub back : (i : ℕ) → i < n → f i < t → i < c

counted_more : (f : ℕ → ℕ) → Rising f → (t n c : ℕ) → Counted f t n c → f n < t → Counted f t (n + 1) (c + 1)
counted_more f up t n c h l =
    let all : c ≡ n = ⊎_elim
    (λ s. let u = up c n s in let v = h.back c s (omega arith) in omega arith)
    (λ s. omega arith)
    (cases_lt c n) in
    record {
      few = omega arith;
      there = λ i s. ⊎_elim (λ e. omega (arith, up i n e)) (λ e. subst (λ k. f k < t) (omega arith) l) (cases_lt i n);
      back = λ i s e. omega arith;
    }

counted_same : (f : ℕ → ℕ) → Rising f → (t n c : ℕ) → Counted f t n c → t ≤ f n → Counted f t (n + 1) c
counted_same f up t n c h l =
    record {
      few = omega arith;
      there = h.there;
      back = λ i s e. ⊎_elim (λ k. h.back i k e) (λ k. let g : f n < t = subst (λ x. f x < t) (omega arith) e in absurd (omega arith)) (cases_lt i n);
    }

pub counted : (f : ℕ → ℕ) → Rising f → (t n : ℕ) → Counted f t n (count_to f t n)
unfolding count_to
counted f up t zero = record { few = omega arith; there = λ i h. absurd (omega arith); back = λ i h e. absurd (omega arith) }
counted f up t (suc n) =
    let h = counted f up t n in
    rw (← add-one n) (cond_both (ltb (f n) t) (count_to f t n + 1) (count_to f t n) (Counted f t (n + 1))
    (λ e. counted_more f up t n (count_to f t n) h (ltb-true (f n) t e))
    (λ e. counted_same f up t n (count_to f t n) h (ltb-false (f n) t e)))

rising_grows : (f : ℕ → ℕ) → Rising f → (i : ℕ) → i ≤ f i
rising_grows f up zero = omega arith
rising_grows f up (suc i) = let h = rising_grows f up i in let u = up i (suc i) (omega arith) in omega arith

module _ (f : ℕ → ℕ) (up : Rising f) where
  -- the values below t are the first ones, as many as are counted
  pub below_there : (t i : ℕ) → i < count_below f t → f i < t
  unfolding count_below
  below_there t i h = (counted f up t t).there i h

  pub below_back : (t i : ℕ) → f i < t → i < count_below f t
  unfolding count_below
  below_back t i h = (counted f up t t).back i (omega (arith, rising_grows f up i)) h

  pub below_not : (t i : ℕ) → count_below f t ≤ i → t ≤ f i
  below_not t i h = ⊎_elim (λ k. absurd (omega (arith, below_back t i k))) (λ k. k) (cases_lt (f i) t)

  -- and no other number does so
  pub below_only : (t n : ℕ) → ((i : ℕ) → i < n → f i < t) → ((i : ℕ) → f i < t → i < n) → n ≡ count_below f t
  below_only t n here there =
      ⊎_elim (λ k. absurd (omega (arith, there n (below_there t n k))))
      (λ k. ⊎_elim (λ l. absurd (omega (arith, below_back t (count_below f t) (here (count_below f t) l)))) (λ l. omega arith) (cases_lt (count_below f t) n))
      (cases_lt n (count_below f t))
