-- Euclid's step, and the least common multiple from the greatest common divisor.
-- Assumes nothing.
use Rattle.std.proofs.Common.{◌≡◌, ℕ, zero, suc, ◌+◌, ◌-◌, ◌*◌, ◌/◌, ◌%◌, ◌<◌, List, [], ◌∷◌, length, get_or, ap, subst, ⊎_elim, mul_comm, mul-pos, div-add-mod', arith, below_more}
use native.Mathlib.Nat.{dvd_refl, one-dvd, dvd-zero, dvd_trans, dvd-mul_left, dvd-mul_right, dvd-mul_left_of_dvd, dvd-mod_iff, dvd-sub, mul-dvd-mul_left, dvd_of_mul-dvd-mul_left, div-mul_cancel, pos_of_dvd_of_pos, eq-zero_of_zero-dvd}
use Rattle.std.proofs.lemmas.Bool.{cases_lt}
use Rattle.stage.specs.Periods.{Divides, CommonMultiple, LeastCommonMultiple, GreatestCommonDivisor}

pub gcd_zero : (a : ℕ) → GreatestCommonDivisor a 0 a
gcd_zero a = record { divides_first = dvd_refl a; divides_second = dvd-zero a; greatest = λ d m h k. h }

-- the remainder times m is a difference of multiples
rest_times : (a b m : ℕ) → a % b * m ≡ a * m - a / b * (b * m)
rest_times a b m = let split = ap (λ n. n * m) (div-add-mod' a b) in omega arith

pub gcd_step : (a b g : ℕ) → 0 < b → GreatestCommonDivisor b (a % b) g → GreatestCommonDivisor a b g
gcd_step a b g h step =
    record {
      divides_first = (dvd-mod_iff g step.divides_first).0 step.divides_second;
      divides_second = step.divides_first;
      greatest = λ d m first second.
          step.greatest d m second
          (rw (rest_times a b m) (dvd-sub d first (dvd-mul_left_of_dvd d second (a / b))));
    }

-- a / g × b is the least common multiple
module _ (a b g : ℕ) (a_pos : 0 < a) (b_pos : 0 < b) (gcd : GreatestCommonDivisor a b g) where
  g_pos : 0 < g
  g_pos = pos_of_dvd_of_pos gcd.divides_first a_pos

  abbrev pub product : ℕ
  product = a / g * b

  pub g_times : g * product ≡ a * b
  g_times = let split = ap (λ n. n * b) (div-mul_cancel g gcd.divides_first) in omega arith

  pub first_divides : Divides a product
  first_divides =
      let split = ap (λ n. n * (b / g)) (div-mul_cancel g gcd.divides_first) in
      let split' = ap (λ n. a / g * n) (div-mul_cancel g gcd.divides_second) in
      let same : a * (b / g) ≡ a / g * b = omega arith in
      subst (Divides a) same (dvd-mul_right a (b / g))

  pub product_least : (n : ℕ) → Divides a n → Divides b n → Divides product n
  product_least n ha hb =
      dvd_of_mul-dvd-mul_left product g_pos
      (rw g_times
      (gcd.greatest (a * b) n (mul-dvd-mul_left b a hb) (rw (mul_comm a b) (mul-dvd-mul_left a b ha))))

-- a common multiple of two cycles, and what divides one
pub pair_common : (a b m : ℕ) → 0 < m → Divides a m → Divides b m → CommonMultiple (a ∷ b ∷ []) m
pair_common a b m pos ha hb = record { positive = pos; divided = both }
  where
    both : (i : ℕ) → i < 2 → Divides (get_or (a ∷ b ∷ []) i 0) m
    both zero h = ha
    both (suc zero) h = hb
    both (suc (suc i)) h = absurd (omega arith)

pub pair_first : (a b m : ℕ) → CommonMultiple (a ∷ b ∷ []) m → Divides a m
pair_first a b m h = h.divided 0 (omega arith)

pub pair_second : (a b m : ℕ) → CommonMultiple (a ∷ b ∷ []) m → Divides b m
pair_second a b m h = h.divided 1 (omega arith)

pub pair_least : (a b g : ℕ) → 0 < a → 0 < b → GreatestCommonDivisor a b g → LeastCommonMultiple (a ∷ b ∷ []) (a / g * b)
pair_least a b g a_pos b_pos gcd =
    record {
      common = pair_common a b (a / g * b) pos (first_divides a b g a_pos b_pos gcd) (dvd-mul_left b (a / g));
      least = λ n h. product_least a b g a_pos b_pos gcd n (pair_first a b n h) (pair_second a b n h);
    }
  where
    pos : 0 < a / g * b
    pos =
        ⊎_elim (λ k. k)
        (λ k.
        let all : 0 < a * b = mul-pos a_pos b_pos in
        let none : a / g * b ≡ 0 = omega arith in
        omega (arith, g_times a b g a_pos b_pos gcd, ap (λ n. g * n) none))
        (cases_lt 0 (a / g * b))

-- m is the least common multiple of the first i cycles
pub record LeastOfFirst (cycles : List ℕ) (i m : ℕ) : Type 0 where
  pub positive : 0 < m
  pub divided : (a : ℕ) → a < i → Divides (get_or cycles a 0) m
  pub least : (n : ℕ) → 0 < n → ((a : ℕ) → a < i → Divides (get_or cycles a 0) n) → Divides m n

pub least_none : (cycles : List ℕ) → LeastOfFirst cycles 0 1
least_none cycles = record { positive = omega arith; divided = λ a h. absurd (omega arith); least = λ n h k. one-dvd n }

pub least_more : (cycles : List ℕ) (i m p : ℕ) → LeastOfFirst cycles i m
    → LeastCommonMultiple (m ∷ get_or cycles i 0 ∷ []) p → LeastOfFirst cycles (i + 1) p
least_more cycles i m p before h =
    record {
      positive = h.common.positive;
      divided = below_more _ i
          (λ a k. dvd_trans (get_or cycles a 0) (before.divided a k) (pair_first _ _ p h.common))
          (pair_second _ _ p h.common);
      least = λ n pos all.
          h.least n
          (pair_common m (get_or cycles i 0) n pos (before.least n pos (λ a k. all a (omega arith))) (all i (omega arith)));
    }

-- where the first i cycles and the next have no small common multiple, all the cycles have none
pub none_more : (cycles : List ℕ) (i m : ℕ) → i < length cycles → LeastOfFirst cycles i m
    → ((n : ℕ) → CommonMultiple (m ∷ get_or cycles i 0 ∷ []) n → 100_000_000 < n)
    → (n : ℕ) → CommonMultiple cycles n → 100_000_000 < n
none_more cycles i m h before none n all =
    none n
    (pair_common m (get_or cycles i 0) n all.positive
    (before.least n all.positive (λ a k. all.divided a (omega arith)))
    (all.divided i h))

pub least_all : (cycles : List ℕ) (i m : ℕ) → i ≡ length cycles → LeastOfFirst cycles i m → LeastCommonMultiple cycles m
least_all cycles i m e h =
    record {
      common = record { positive = h.positive; divided = λ a k. h.divided a (omega arith) };
      least = λ n all. h.least n all.positive (λ a k. all.divided a (omega arith));
    }

-- a positive number is no multiple of 0
pub zero_divides : (n : ℕ) → 0 < n → Divides 0 n → ⊥
zero_divides n pos h = omega (arith, eq-zero_of_zero-dvd h)
