-- A route repeats itself, so the blocks of one period after the first block show the best of all paths.
-- Said of the whole route as one hop h, as in Best.
-- Assumes nothing.
use Rattle.std.proofs.Common.{◌≡◌, ℕ, zero, suc, ◌+◌, ◌-◌, ◌<◌, ◌≤◌, sym, refl, ap, ◌∙◌, subst, ⊎_elim, arith}
use Rattle.std.proofs.lemmas.Bool.{cases_lt}
use Rattle.path.specs.declared.semantics.Semantics.{Semantics}
use Rattle.path.specs.declared.semantics.Semantics.TheVariants.{LL, LF, FL, FF}
use Rattle.path.specs.Steps.{Hop, first_block, next_block}
use Rattle.path.proofs.Hops.{Tied, back_not, ahead_not}
use Rattle.path.proofs.Blocks.{Opens, Before, top_positive, first_opens, next_opens, next_before, next_soonest}
use Rattle.path.proofs.Best.{Chosen, From, longest, Takes, Clock, BestSoFar, longest_takes, takes_time}

-- n first instances later, and so m last instances later, everything happens by `period` later
pub record Repeats (h : Hop) (begin finish : ℕ → ℕ) (n m period : ℕ) : Type 0 where
  pub some_first : 0 < n
  pub some_last : 0 < m
  pub ahead_moves : (i : ℕ) → h.ahead (i + n) ≡ h.ahead i + m
  pub begin_moves : (i : ℕ) → begin (i + n) ≡ begin i + period
  pub finish_moves : (j : ℕ) → finish (j + m) ≡ finish j + period

-- the step back moves too, wherever there is one
pub back_moves : (h : Hop) → Tied h → (n m : ℕ) → ((i : ℕ) → h.ahead (i + n) ≡ h.ahead i + m) → (c : ℕ) → 0 < h.back c → h.back (c + m) ≡ h.back c + n
back_moves h t n m moves c l =
    let i : ℕ = h.back c - 1 in
    let a = t.to_ahead i c (omega arith) in
    let b = ahead_not h t (h.back c) c (omega arith) in
    let p = t.to_back (i + n) (c + m) (omega (arith, moves i)) in
    let q = back_not h t (h.back c + n) (c + m) (omega (arith, moves (h.back c))) in
    omega arith

-- and so do the blocks
pub next_moves : (h : Hop) → Tied h → (n m : ℕ) → ((i : ℕ) → h.ahead (i + n) ≡ h.ahead i + m) → (f : ℕ) → next_block h (f + n) ≡ next_block h f + n
next_moves h t n m moves f =
    let e : h.ahead (f + n + 1) + 1 ≡ h.ahead (f + 1) + 1 + m =
    omega (arith, ap h.ahead (sum_moved f n), moves (f + 1)) in
    let p = top_positive h t (f + 1) in
    omega (arith, ap h.back e, back_moves h t n m moves (h.ahead (f + 1) + 1) (omega arith))
  where
    sum_moved : (f n : ℕ) → f + n + 1 ≡ f + 1 + n
    sum_moved f n = omega arith

-- the best of all paths that count
pub record BestOfAll (s : Semantics) (h : Hop) (begin finish : ℕ → ℕ) (d o l : ℕ) : Type 0 where
  pub first : ℕ
  pub takes : Takes s h first l o
  pub lasts : d ≡ finish l - begin o
  pub largest : (f j q : ℕ) → Takes s h f j q → finish j - begin q ≤ d
  pub smallest : (f j q : ℕ) → Takes s h f j q → finish j - begin q ≡ d → l ≤ j

module _ (h : Hop) (t : Tied h) (begin finish : ℕ → ℕ) (n m period : ℕ) (r : Repeats h begin finish n m period) where
  ahead_next : (i : ℕ) → h.ahead (i + n + 1) ≡ h.ahead (i + 1) + m
  ahead_next i = subst (λ x. h.ahead x ≡ h.ahead (i + 1) + m) (omega arith) (r.ahead_moves (i + 1))

  pub opens_up : (f : ℕ) → Opens h f → Opens h (f + n)
  opens_up f o = omega (arith, r.ahead_moves f, ahead_next f)

  pub opens_down : (f : ℕ) → Opens h (f + n) → Opens h f
  opens_down f o = omega (arith, r.ahead_moves f, ahead_next f)

  before_down : (f b : ℕ) → Before h (f + n) (b + n) → Before h f b
  before_down f b p =
      record {
        earlier = omega (arith, p.earlier);
        opens = opens_down b p.opens;
        latest = λ c l o. omega (arith, p.latest (c + n) (omega arith) (opens_up c o));
      }

  chosen_down : (s : Semantics) (f j : ℕ) → Chosen s h (f + n) (j + m) → Chosen s h f j
  chosen_down LL f j c = tt
  chosen_down LF f j c = omega (arith, r.ahead_moves f)
  chosen_down FL f j c = tt
  chosen_down FF f j c = omega (arith, r.ahead_moves f)

  from_down : (s : Semantics) (f o : ℕ) → From s h (f + n) (o + n) → From s h f o
  from_down LL f o c = omega arith
  from_down LF f o c = omega arith
  from_down FL f o c = before_down f o c
  from_down FF f o c = before_down f o c

  takes_down : (s : Semantics) (f j o : ℕ) → Takes s h (f + n) (j + m) (o + n) → Takes s h f j o
  takes_down s f j o a =
      record {
        low = omega (arith, a.low, r.ahead_moves f);
        high = omega (arith, a.high, ahead_next f);
        chosen = chosen_down s f j a.chosen;
        origin = from_down s f o a.origin;
      }

  -- a path that begins after the first block moved is counted from an instance after the first block moved, or from it
  from_late : (s : Semantics) (f o : ℕ) → first_block h + n < f → From s h f o → n ≤ o
  from_late LL f o l a = omega arith
  from_late LF f o l a = omega arith
  from_late FL f o l a = omega (arith, a.latest (first_block h + n) l (opens_up (first_block h) (first_opens h t)))
  from_late FF f o l a = omega (arith, a.latest (first_block h + n) l (opens_up (first_block h) (first_opens h t)))

  -- a path that begins there, moved down
  record Lower (s : Semantics) (f j o : ℕ) : Type 0 where
    f' : ℕ
    j' : ℕ
    o' : ℕ
    sooner : f' < f
    ends : j' ≤ j
    same : finish j - begin o ≡ finish j' - begin o'
    counts : Takes s h f' j' o'

  lower : (s : Semantics) (f j o : ℕ) → first_block h + n < f → Takes s h f j o → Lower s f j o
  lower s f j o l a =
      let o_late = from_late s f o l a.origin in
      let f_is : f ≡ (f - n) + n = omega arith in
      let o_is : o ≡ (o - n) + n = omega arith in
      let ahead_is : h.ahead f ≡ h.ahead (f - n) + m = ap h.ahead f_is ∙ r.ahead_moves (f - n) in
      let j_late : m ≤ j = omega (arith, a.low) in
      let j_is : j ≡ (j - m) + m = omega arith in
      let b = ap begin o_is ∙ r.begin_moves (o - n) in
      let e = ap finish j_is ∙ r.finish_moves (j - m) in
      let a' : Takes s h ((f - n) + n) ((j - m) + m) ((o - n) + n) =
      subst (λ x. Takes s h x ((j - m) + m) ((o - n) + n)) f_is
      (subst (λ y. Takes s h f y ((o - n) + n)) j_is
      (subst (λ z. Takes s h f j z) o_is a)) in
      record {
        f' = f - n;
        j' = j - m;
        o' = o - n;
        sooner = omega (arith, r.some_first);
        ends = omega arith;
        same = omega arith;
        counts = takes_down s (f - n) (j - m) (o - n) a';
      }

  -- what holds of every path that begins sooner than `upto`, past the first block moved, and of a path where it holds of
  -- that path moved down, holds of all
  all_paths : (s : Semantics) (upto : ℕ) (P : ℕ → ℕ → ℕ → Type 0) → first_block h + n < upto
      → ((f j q : ℕ) → f < upto → Takes s h f j q → P f j q) → ((f j q : ℕ) (g : Lower s f j q) → P g.f' g.j' g.o' → P f j q)
      → (fuel f j q : ℕ) → f < fuel → Takes s h f j q → P f j q
  all_paths s upto P far here up zero f j q w a = absurd (omega arith)
  all_paths s upto P far here up (suc fuel) f j q w a =
      ⊎_elim (λ u. here f j q u a)
      (λ u. let g = lower s f j q (omega arith) a in
      up f j q g (all_paths s upto P far here up fuel g.f' g.j' g.o' (omega (arith, g.sooner)) g.counts))
      (cases_lt f upto)

  -- one of the visited blocks has a path that counts
  record SomeBlock (s : Semantics) : Type 0 where
    f : ℕ
    o : ℕ
    soon : f ≤ first_block h + n
    opens : Opens h f
    from : From s h f o

  second_soon : next_block h (first_block h) ≤ first_block h + n
  second_soon =
      next_soonest h t (first_block h) (first_block h + n) (omega (arith, r.some_first))
      (opens_up (first_block h) (first_opens h t))

  -- the first block where no predecessor is asked for, and else the second
  block_one : (s : Semantics) → From s h (first_block h) (first_block h) → SomeBlock s
  block_one s from = record { f = first_block h; o = first_block h; soon = omega arith; opens = first_opens h t; from = from }

  block_two : (s : Semantics) → From s h (next_block h (first_block h)) (first_block h) → SomeBlock s
  block_two s from =
      record { f = next_block h (first_block h); o = first_block h; soon = second_soon; opens = next_opens h t (first_block h); from = from }

  some_block : (s : Semantics) → SomeBlock s
  some_block LL = block_one LL refl
  some_block LF = block_one LF refl
  some_block FL = block_two FL (next_before h t (first_block h) (first_opens h t))
  some_block FF = block_two FF (next_before h t (first_block h) (first_opens h t))

  -- When the first block moved has been visited, the best so far is the best of all.
  pub best_all : (s : Semantics) → Clock h begin finish → (upto d o l : ℕ) → BestSoFar s h begin finish upto d o l → first_block h + n < upto → BestOfAll s h begin finish d o l
  best_all s k upto d o l b far =
      let g = some_block s in
      let a = longest_takes s h g.f g.o g.opens g.from in
      let low : 0 < d = omega (
        arith,
        b.largest g.f (longest s h g.f) g.o (omega (arith, g.soon)) a,
        takes_time s h t begin finish k g.f (longest s h g.f) g.o a,
      ) in
      let (f, w, c, e) = b.found low in
      record {
        first = f;
        takes = c;
        lasts = e;
        largest = λ f j q a. all_paths s upto (λ f j q. finish j - begin q ≤ d) far b.largest
            (λ f j q g z. omega (arith, g.same)) (f + 1) f j q (omega arith) a;
        smallest = λ f j q a. all_paths s upto (λ f j q. finish j - begin q ≡ d → l ≤ j) far b.smallest
            (λ f j q g z e. omega (arith, z (sym g.same ∙ e), g.ends)) (f + 1) f j q (omega arith) a;
      }
