-- The best among the blocks that have been visited, and why one macro-period of blocks is enough.
-- Said of the whole route as one hop h, with the time at which a first instance starts and that at which a last one stops.
-- Assumes nothing.
use Rattle.std.proofs.Common.{◌≡◌, ℕ, ◌+◌, ◌-◌, ◌<◌, ◌≤◌, ◌⊎◌, refl, ap, subst, inl, inr, ⊎_elim, arith}
use Rattle.std.proofs.lemmas.Bool.{cases_lt}
use Rattle.path.specs.declared.semantics.Semantics.{Semantics}
use Rattle.path.specs.declared.semantics.Semantics.TheVariants.{LL, LF, FL, FF}
use Rattle.path.proofs.Counting.{Rising, rising_le}
use Rattle.path.specs.Steps.{end_in, Hop, first_block, next_block}
use Rattle.path.proofs.Hops.{Tied, ahead_rises}
use Rattle.path.proofs.Blocks.{Opens, Before, before_only, none_before_first, none_between, next_later}

-- the end of a path from f is one that counts
abbrev pub Chosen : Semantics → Hop → ℕ → ℕ → Type 0
Chosen LL h f j = Unit {0}
Chosen LF h f j = j ≡ h.ahead f
Chosen FL h f j = Unit {0}
Chosen FF h f j = j ≡ h.ahead f

-- the delay of a path from f is counted from o
abbrev pub From : Semantics → Hop → ℕ → ℕ → Type 0
From LL h f o = o ≡ f
From LF h f o = o ≡ f
From FL h f o = Before h f o
From FF h f o = Before h f o

-- the end that takes longest in block f
abbrev pub longest : Semantics → Hop → ℕ → ℕ
longest m h f = end_in m (h.ahead f) (h.ahead (f + 1))

-- a path from f to j counts, and its delay is counted from o
pub record Takes (m : Semantics) (h : Hop) (f j o : ℕ) : Type 0 where
  pub low : h.ahead f ≤ j
  pub high : j < h.ahead (f + 1)
  pub chosen : Chosen m h f j
  pub origin : From m h f o

-- when first instances start and last ones stop
pub record Clock (h : Hop) (begin finish : ℕ → ℕ) : Type 0 where
  pub finish_rises : Rising finish
  pub in_time : (i : ℕ) → begin i < finish (h.ahead i)

-- The best of the paths that count and begin below `upto`: its delay d, counted from o, and its last instance l.
-- A delay of 0 stands for none.
pub record BestSoFar (m : Semantics) (h : Hop) (begin finish : ℕ → ℕ) (upto d o l : ℕ) : Type 0 where
  pub found : 0 < d → (f : ℕ) × (f < upto) × Takes m h f l o × (d ≡ finish l - begin o)
  pub largest : (f j q : ℕ) → f < upto → Takes m h f j q → finish j - begin q ≤ d
  pub smallest : (f j q : ℕ) → f < upto → Takes m h f j q → finish j - begin q ≡ d → l ≤ j

pub from_only : (m : Semantics) (h : Hop) (f o q : ℕ) → From m h f o → From m h f q → o ≡ q
from_only LL h f o q a b = omega arith
from_only LF h f o q a b = omega arith
from_only FL h f o q a b = before_only h f o q a b
from_only FF h f o q a b = before_only h f o q a b

pub longest_takes : (m : Semantics) (h : Hop) (f o : ℕ) → Opens h f → From m h f o → Takes m h f (longest m h f) o
longest_takes LL h f o p a = record { low = omega arith; high = omega arith; chosen = tt; origin = a }
longest_takes LF h f o p a = record { low = omega arith; high = omega arith; chosen = refl; origin = a }
longest_takes FL h f o p a = record { low = omega arith; high = omega arith; chosen = tt; origin = a }
longest_takes FF h f o p a = record { low = omega arith; high = omega arith; chosen = refl; origin = a }

longest_last : (m : Semantics) (h : Hop) (f j o : ℕ) → Takes m h f j o → j ≤ longest m h f
longest_last LL h f j o a = omega (arith, a.high)
longest_last LF h f j o a = omega (arith, a.chosen)
longest_last FL h f j o a = omega (arith, a.high)
longest_last FF h f j o a = omega (arith, a.chosen)

-- the longest is within the block
pub longest_low : (m : Semantics) (h : Hop) (f : ℕ) → Opens h f → longest m h f < h.ahead (f + 1)
longest_low LL h f o = omega arith
longest_low LF h f o = o
longest_low FL h f o = omega arith
longest_low FF h f o = o

pub from_low : (m : Semantics) (h : Hop) (f o : ℕ) → From m h f o → o ≤ f
from_low LL h f o a = omega arith
from_low LF h f o a = omega arith
from_low FL h f o a = omega (arith, a.earlier)
from_low FF h f o a = omega (arith, a.earlier)

pub takes_opens : (m : Semantics) (h : Hop) (f j o : ℕ) → Takes m h f j o → Opens h f
takes_opens m h f j o a = omega (arith, a.low, a.high)

module _ (m : Semantics) (h : Hop) (t : Tied h) (begin finish : ℕ → ℕ) (k : Clock h begin finish) where
  pub takes_time : (f j o : ℕ) → Takes m h f j o → begin o < finish j
  takes_time f j o a =
      omega (
        arith,
        k.in_time o,
        rising_le finish k.finish_rises (h.ahead o) j
            (omega (arith, a.low, ahead_rises h t o f (from_low m h f o a.origin))),
      )

  -- Before any block has been visited.
  pub best_none : BestSoFar m h begin finish (first_block h) 0 0 0
  best_none =
      record {
        found = λ l. absurd (omega arith);
        largest = λ f j q l a. absurd (none_before_first h t f l (takes_opens m h f j q a));
        smallest = λ f j q l a e. absurd (none_before_first h t f l (takes_opens m h f j q a));
      }

  -- what begins below the next block begins below f or at f
  split_block : (f b : ℕ) → b < next_block h f → Opens h b → (b < f) ⊎ (b ≡ f)
  split_block f b l p =
      ⊎_elim (λ s. inl s)
      (λ s. ⊎_elim (λ u. absurd (none_between h t f b u l p)) (λ u. inr (omega arith)) (cases_lt f b))
      (cases_lt b f)

  -- A block of which no path counts, as the first one where a predecessor is asked for.
  pub best_skip : (f d o l : ℕ) → BestSoFar m h begin finish f d o l → ((q : ℕ) → ¬ From m h f q) → BestSoFar m h begin finish (next_block h f) d o l
  best_skip f d o l b none =
      record {
        found = λ p. let (g, s, a, e) = b.found p in (g, omega (arith, next_later h t f), a, e);
        largest = λ g j q s a. ⊎_elim (λ u. b.largest g j q u a)
            (λ u. absurd (none q (subst (λ x. From m h x q) u a.origin)))
            (split_block f g s (takes_opens m h g j q a));
        smallest = λ g j q s a e. ⊎_elim (λ u. b.smallest g j q u a e)
            (λ u. absurd (none q (subst (λ x. From m h x q) u a.origin)))
            (split_block f g s (takes_opens m h g j q a));
      }

  -- no path of block f takes longer than its longest
  in_block : (f j q o : ℕ) → From m h f o → Takes m h f j q → finish j - begin q ≤ finish (longest m h f) - begin o
  in_block f j q o w a =
      let e : begin q ≡ begin o = ap begin (from_only m h f q o a.origin w) in
      omega (arith, rising_le finish k.finish_rises j (longest m h f) (longest_last m h f j q a))

  -- and one that takes just as long is that one
  in_block_equal : (f j q o : ℕ) → From m h f o → Takes m h f j q → finish j - begin q ≡ finish (longest m h f) - begin o → longest m h f ≤ j
  in_block_equal f j q o w a e =
      let s : begin q ≡ begin o = ap begin (from_only m h f q o a.origin w) in
      let p = takes_time f j q a in
      ⊎_elim (λ u. absurd (omega (arith, k.finish_rises j (longest m h f) u))) (λ u. u) (cases_lt j (longest m h f))

  -- One more block, whose longest path takes longer than the best so far.
  pub best_more : (f d o l q : ℕ) → Opens h f → From m h f q → BestSoFar m h begin finish f d o l → d < finish (longest m h f) - begin q → BestSoFar m h begin finish (next_block h f) (finish (longest m h f) - begin q) q (longest m h f)
  best_more f d o l q p w b up =
      record {
        found = λ s. (f, next_later h t f, longest_takes m h f q p w, refl);
        largest = λ g j r s a. ⊎_elim (λ u. omega (arith, b.largest g j r u a))
            (λ u. in_block f j r q w (subst (λ x. Takes m h x j r) u a))
            (split_block f g s (takes_opens m h g j r a));
        smallest = λ g j r s a e. ⊎_elim (λ u. absurd (omega (arith, b.largest g j r u a)))
            (λ u. in_block_equal f j r q w (subst (λ x. Takes m h x j r) u a) e)
            (split_block f g s (takes_opens m h g j r a));
      }

  -- One more block, whose longest path does not.
  pub best_same : (f d o l q : ℕ) → Opens h f → From m h f q → BestSoFar m h begin finish f d o l → finish (longest m h f) - begin q ≤ d → BestSoFar m h begin finish (next_block h f) d o l
  best_same f d o l q p w b down =
      record {
        found = λ s. let (g, u, a, e) = b.found s in (g, omega (arith, next_later h t f), a, e);
        largest = λ g j r s a. ⊎_elim (λ u. b.largest g j r u a)
            (λ u. omega (arith, in_block f j r q w (subst (λ x. Takes m h x j r) u a)))
            (split_block f g s (takes_opens m h g j r a));
        smallest = λ g j r s a e. ⊎_elim (λ u. b.smallest g j r u a e)
            (λ u. let a' = subst (λ x. Takes m h x j r) u a in later f d o l j r b a' (omega (arith, takes_time f j r a')))
            (split_block f g s (takes_opens m h g j r a));
      }
    where
      later : (f d o l j r : ℕ) → BestSoFar m h begin finish f d o l → Takes m h f j r → 0 < d → l ≤ j
      later f d o l j r b a s =
          let (g, u, c, e) = b.found s in
          omega (arith, c.high, ahead_rises h t (g + 1) f (omega arith), a.low)
