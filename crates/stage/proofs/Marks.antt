-- What the test of a row against the laws has seen, mark by mark.
-- Assumes nothing.
use Rattle.std.proofs.Common.{◌≡◌, ℕ, zero, suc, ◌+◌, ◌-◌, ◌%◌, ◌<◌, ◌≤◌, List, map, length, take, get_or, sym, refl, ◌∙◌, ap, subst, mod-lt, add-one, below_more, arith}
use mathlib.Core.Logic.{∥∥₁_elim}
use mathlib.Core.HLevel.{Π_prop}
use native.Mathlib.Bridge.{le_prop}
use Rattle.std.specs.List.{range_with_len}
use Rattle.std.proofs.lemmas.List.{get_or-take, length-take}
use Rattle.std.proofs.lemmas.List.FromFn.{length-map-range_with_len, get_or-map-range_with_len, fill_by_all}
use Rattle.stage.specs.Stages.{Stage, Lawful, LawfulMark, lawful_prop, count_of, mark_of, start_of, stop_of}
use Rattle.stage.specs.Rows.{row_of, stage_of, time_of}
use Rattle.stage.specs.declared.row.Row.{Row}

-- what holds below n and at n holds below n + 1
below_suc : (P : ℕ → Type 0) (n : ℕ) → ((a : ℕ) → a < n → P a) → P n → (a : ℕ) → a < suc n → P a
below_suc P n below here a h = below_more P n below here a (omega arith)

module _ (r : Row) where
  pub count_is : count_of (stage_of r) ≡ r.count
  count_is = length-map-range_with_len _ 0 r.count

  pub mark_is : (a : ℕ) → a < r.count → mark_of (stage_of r) a ≡ (get_or r.starts a 0, get_or r.stops a 0)
  mark_is a h = get_or-map-range_with_len _ 0 r.count a a (0, 0) h (omega arith)

  pub start_is : (a : ℕ) → a < r.count → (mark_of (stage_of r) a).0 ≡ get_or r.starts a 0
  start_is a h = ap (λ m. m.0) (mark_is a h)

  pub stop_is : (a : ℕ) → a < r.count → (mark_of (stage_of r) a).1 ≡ get_or r.stops a 0
  stop_is a h = ap (λ m. m.1) (mark_is a h)

  -- the stop of the mark before mark a, or 0
  abbrev pub floor_at : ℕ → ℕ
  floor_at zero = 0
  floor_at (suc a) = get_or r.stops a 0

  -- each of the first n marks keeps the laws within the cycle
  abbrev pub Kept : ℕ → Type 0
  Kept n = (a : ℕ) → a < n → LawfulMark r.cycle (floor_at a) (get_or r.starts a 0) (get_or r.stops a 0)

  -- where the starts and the stops of the first marks are read one after the other
  pub mark_read : (times : List ℕ) (n time : ℕ) → n < length (take r.count times)
      → ((d : ℕ) → time ≡ get_or (take r.count times) n d) → (n < r.count) × (time ≡ get_or times n 0)
  mark_read times n time h e =
      let k = length-take r.count times in
      let inside : n < r.count = omega arith in
      (inside, e 0 ∙ get_or-take r.count times n 0 inside)

  pub kept_more : (n start stop : ℕ) → Kept n → LawfulMark r.cycle (floor_at n) start stop
      → start ≡ get_or r.starts n 0 → stop ≡ get_or r.stops n 0 → Kept (suc n) × (stop ≡ floor_at (suc n))
  kept_more n start stop kept mark e f =
      (below_suc (λ a. LawfulMark r.cycle (floor_at a) (get_or r.starts a 0) (get_or r.stops a 0)) n kept (rw (← e, ← f) mark), f)

  pub to_lawful : 0 < r.cycle → r.cycle ≤ 100_000_000 → 0 < r.count → r.count ≤ 48 → r.rank ≤ 255
      → Kept r.count → floor_at r.count ≤ r.cycle + get_or r.starts 0 0 → Lawful (stage_of r)
  to_lawful c0 c1 k0 k1 r1 kept over =
      let k = count_is in
      let last : (mark_of (stage_of r) (r.count - 1)).1 ≤ r.cycle + (mark_of (stage_of r) 0).0 =
      rw (stop_is (r.count - 1) (omega arith), start_is 0 (omega arith))
      (subst (λ n. n ≤ r.cycle + get_or r.starts 0 0) (floor_last r.count k0) over) in
      record {
        cycle_low = c0;
        cycle_high = c1;
        count_low = omega arith;
        count_high = omega arith;
        rank_high = r1;
        start_in_cycle = λ a h. let h' : a < r.count = omega arith in omega (arith, start_is a h', kept a h');
        stop_after_start = λ a h.
            let h' : a < r.count = omega arith in omega (arith, start_is a h', stop_is a h', kept a h');
        start_after_stop = λ a h.
            let h' : suc a < r.count = omega arith in
            let e : suc a ≡ a + 1 = omega arith in
            subst (λ n. (mark_of (stage_of r) a).1 ≤ (mark_of (stage_of r) n).0) e
            (omega (arith, start_is (suc a) h', stop_is a (omega arith), (kept (suc a) h').after_floor));
        last_stop_in_time = subst (λ n. (mark_of (stage_of r) (n - 1)).1 ≤ r.cycle + (mark_of (stage_of r) 0).0) (sym k) last;
      }
    where
      floor_last : (n : ℕ) → 0 < n → floor_at n ≡ get_or r.stops (n - 1) 0
      floor_last zero h = omega arith
      floor_last (suc n) h = let e : n ≡ suc n - 1 = omega arith in ap (λ m. get_or r.stops m 0) e

  pub from_lawful : Lawful (stage_of r) → Kept r.count
  from_lawful l zero h =
      let h' : 0 < count_of (stage_of r) = omega (arith, count_is) in
      record {
        after_floor = omega arith;
        in_cycle = omega (arith, start_is 0 h, l.start_in_cycle 0 h');
        stops_later = omega (arith, start_is 0 h, stop_is 0 h, l.stop_after_start 0 h');
      }
  from_lawful l (suc a) h =
      let k = count_is in
      let h' : suc a < count_of (stage_of r) = omega arith in
      let up : (mark_of (stage_of r) a).1 ≤ (mark_of (stage_of r) (suc a)).0 =
      rw (← add-one) (l.start_after_stop a (omega arith)) in
      record {
        after_floor = omega (arith, start_is (suc a) h, stop_is a (omega arith));
        in_cycle = omega (arith, start_is (suc a) h, l.start_in_cycle (suc a) h');
        stops_later = omega (arith, start_is (suc a) h, stop_is (suc a) h, l.stop_after_start (suc a) h');
      }

  pub last_in_time : Lawful (stage_of r) → floor_at r.count ≤ r.cycle + get_or r.starts 0 0
  last_in_time l = go r.count refl
    where
      go : (n : ℕ) → r.count ≡ n → floor_at n ≤ r.cycle + get_or r.starts 0 0
      go zero e = omega (arith, count_is, l.count_low)
      go (suc n) e =
          let k = count_is in
          let z : n ≡ count_of (stage_of r) - 1 = omega arith in
          let last : (mark_of (stage_of r) n).1 ≤ r.cycle + (mark_of (stage_of r) 0).0 = rw z l.last_stop_in_time in
          omega (arith, stop_is n (omega arith), start_is 0 (omega arith))

-- a row's ranges
pub record Ranges (r : Row) : Type 0 where
  pub cycle_low : 0 < r.cycle
  pub cycle_high : r.cycle ≤ 100_000_000
  pub count_low : 0 < r.count
  pub count_high : r.count ≤ 48

-- the laws, out of a row's invariant
pub laws_of : (s : Stage) → ∥ Lawful s ∥₁ → Lawful s
laws_of s t =
    ∥∥₁_elim t
    (lawful_prop le_prop le_prop le_prop le_prop le_prop
    (Π_prop (λ a. Π_prop (λ h. le_prop)))
    (Π_prop (λ a. Π_prop (λ h. le_prop)))
    (Π_prop (λ a. Π_prop (λ h. le_prop)))
    le_prop)
    (λ l. l)

pub ranges_of : (r : Row) → ∥ Lawful (stage_of r) ∥₁ → Ranges r
ranges_of r t =
    let l = laws_of (stage_of r) t in
    let k = count_is r in
    record { cycle_low = l.cycle_low; cycle_high = l.cycle_high; count_low = omega arith; count_high = omega arith }

module _ (r : Row) (t : ∥ Lawful (stage_of r) ∥₁) (i : ℕ) where
  pub start_time : start_of (stage_of r) i ≡ time_of r r.starts i
  unfolding start_of
  start_time = rw (count_is r, start_is r (i % r.count) (mod-lt i (ranges_of r t).count_low)) refl

  pub stop_time : stop_of (stage_of r) i ≡ time_of r r.stops i
  unfolding stop_of
  stop_time = rw (count_is r, stop_is r (i % r.count) (mod-lt i (ranges_of r t).count_low)) refl

-- a row made of marks is their stage's
pub stage-row_of : (cycle rank : ℕ) (marks : List (ℕ × ℕ)) → length marks ≤ 48
    → stage_of (row_of cycle rank marks) ≡ record { cycle = cycle; rank = rank; marks = marks }
stage-row_of cycle rank marks few = ap (λ (ms : List (ℕ × ℕ)). record { cycle = cycle; rank = rank; marks = ms }) (sym all)
  where
    r : Row
    r = row_of cycle rank marks

    all : marks ≡ map (λ (a : ℕ). (get_or r.starts a 0, get_or r.stops a 0)) (range_with_len 0 (length marks))
    all =
        fill_by_all _ marks _ (0, 0) refl
        (λ k h.
        let start = get_or-map-range_with_len (λ (a : ℕ). (get_or marks a (0, 0)).0) 0 48 k k 0 (omega arith) (omega arith) in
        let stop = get_or-map-range_with_len (λ (a : ℕ). (get_or marks a (0, 0)).1) 0 48 k k 0 (omega arith) (omega arith) in
        rw (start, stop) refl)
