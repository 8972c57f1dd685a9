-- The first instance from a time on, by the marks that start before that time within the cycle.
-- Assumes nothing.
use Rattle.std.proofs.Common.{◌≡◌, ℕ, zero, suc, ◌+◌, ◌-◌, ◌*◌, ◌/◌, ◌%◌, ◌<◌, ◌≤◌, List, length, take, get_or, Some, None, Option, sym, ◌∙◌, ap, subst, ⊎_elim, mod-lt, div-add-mod', zero-mul, true, false, ltb, ltb-true, ltb-false, arith, MatchOption}
use Rattle.std.proofs.lemmas.List.{get_or-take}
use Rattle.std.proofs.lemmas.List.Sorted.{IsNonDecreasingBy-from_default, IsPartitionedBy-ltb}
use Rattle.std.specs.List.Sorted.{IsPartitionedBy, IsPartitionPoint}
use Rattle.std.proofs.lemmas.Bool.{cases_lt, cases_order}
use Rattle.stage.specs.Stages.{Stage, Lawful, count_of, mark_of, start_of}
use Rattle.stage.specs.Instances.{InOrder, FirstFrom}
use Rattle.stage.specs.Rows.{Latest, StartBefore, stage_of}
use Rattle.stage.proofs.Order.{start_at, in_order}
use Rattle.stage.proofs.Marks.{count_is, start_is}
use Rattle.stage.specs.declared.row.Row.{Row}
use Rattle.std.specs.Option.{SomeIff}

module _ (s : Stage) (l : Lawful s) where
  order : InOrder s
  order = in_order s l

  starts_not_fall : (i j : ℕ) → i ≤ j → start_of s i ≤ start_of s j
  starts_not_fall i j h =
      ⊎_elim (λ e. rw e (omega arith)) (λ k. ⊎_elim (λ up. omega (arith, order.starts_rise i j up)) (λ down. omega arith) k) (cases_order i j)

  mark_start : (a : ℕ) → a < count_of s → start_of s a ≡ (mark_of s a).0
  mark_start a h =
      let at = start_at s 0 a h in
      let at' : start_of s (0 * count_of s + a) ≡ (mark_of s a).0 = omega arith in
      subst (λ i. start_of s i ≡ (mark_of s a).0) (omega arith) at'

  marks_rise : (a b : ℕ) → a ≤ b → b < count_of s → (mark_of s a).0 ≤ (mark_of s b).0
  marks_rise a b h k = omega (arith, mark_start a (omega arith), mark_start b k, starts_not_fall a b h)

  pub none_before : (time : ℕ) → time ≤ (mark_of s 0).0 → StartBefore s time 0
  none_before time h =
      record { within = omega arith; early = λ a z. omega arith; late = λ a z k. omega (arith, marks_rise 0 a (omega arith) k) }

  pub split_latest : (before a : ℕ) → Latest s before a → StartBefore s (before + 1) (a + 1)
  split_latest before a h =
      record {
        within = omega (arith, h.present);
        early = λ b z. omega (arith, marks_rise b a (omega arith) h.present, h.started);
        late = λ b z k. ⊎_elim (λ in_time. omega (arith, h.last b k (omega arith))) (λ not_yet. omega arith) (cases_lt (mark_of s b).0 (before + 1));
      }

  -- the first instance of cycle q + 1, and the last of cycle q
  next_cycle : (q : ℕ) → start_of s ((q + 1) * count_of s) ≡ (q + 1) * s.cycle + (mark_of s 0).0
  next_cycle q = subst (λ i. start_of s i ≡ (q + 1) * s.cycle + (mark_of s 0).0) (omega arith) (start_at s (q + 1) 0 (omega arith))

  before_cycle : (q i : ℕ) → i < q * count_of s → start_of s i < q * s.cycle
  before_cycle zero i h = omega (arith, zero-mul (count_of s))
  before_cycle (suc q) i h =
      let k : count_of s - 1 < count_of s = omega (arith, l.count_low) in
      let at = start_at s q (count_of s - 1) k in
      let low = l.start_in_cycle (count_of s - 1) k in
      let up : i ≤ q * count_of s + (count_of s - 1) = omega (arith, l.count_low) in
      omega (arith, starts_not_fall i (q * count_of s + (count_of s - 1)) up)

  earlier_at : (q time n : ℕ) → StartBefore s time n → (i : ℕ) → i < q * count_of s + n → start_of s i < q * s.cycle + time
  earlier_at q time zero h i below = omega (arith, before_cycle q i (omega arith))
  earlier_at q time (suc a) h i below =
      let k : a < count_of s = omega (arith, h.within) in
      omega (arith, starts_not_fall i (q * count_of s + a) (omega arith), start_at s q a k, h.early a (omega arith))

  later_at : (q time n : ℕ) → time < s.cycle → StartBefore s time n → (i : ℕ) → q * count_of s + n ≤ i → q * s.cycle + time ≤ start_of s i
  later_at q time n t h i above =
      ⊎_elim
      (λ k. omega (arith, starts_not_fall (q * count_of s + n) i above, start_at s q n k, h.late n (omega arith) k))
      (λ k.
      let at : (q + 1) * count_of s ≤ i = omega arith in
      omega (arith, starts_not_fall ((q + 1) * count_of s) i at, next_cycle q))
      (cases_lt n (count_of s))

  first_at : (q time n : ℕ) → time < s.cycle → StartBefore s time n → FirstFrom s (q * s.cycle + time) (q * count_of s + n)
  first_at q time n t h =
      record {
        earlier = earlier_at q time n h;
        later = λ i below. ⊎_elim (λ k. k) (λ k. omega (arith, later_at q time n t h i k)) (cases_lt i (q * count_of s + n));
      }

  pub first_from : (time n : ℕ) → StartBefore s (time % s.cycle) n → FirstFrom s time (time / s.cycle * count_of s + n)
  first_from time n h =
      subst (λ t. FirstFrom s t (time / s.cycle * count_of s + n)) (div-add-mod' time s.cycle)
      (first_at (time / s.cycle) (time % s.cycle) n (mod-lt time l.cycle_low) h)

  -- there are at most as many instances before a time as microseconds
  pub first_from_low : (time n : ℕ) → FirstFrom s time n → n ≤ time
  first_from_low time zero h = omega arith
  first_from_low time (suc n) h = omega (arith, h.earlier n (omega arith), order.number_below_start n)

  pub whole_low : (time : ℕ) → time / s.cycle * count_of s ≤ time
  whole_low time =
      let zeroth = first_at (time / s.cycle) 0 0 l.cycle_low (none_before 0 (omega arith)) in
      omega (arith, first_from_low (time / s.cycle * s.cycle + 0) (time / s.cycle * count_of s + 0) zeroth, div-add-mod' time s.cycle)

module _ (r : Row) (l : Lawful (stage_of r)) where
  -- the starts of a row, one by one
  start_at_mark : (xs : List ℕ) → xs ≡ take r.count r.starts → (a : ℕ) → a < r.count → get_or xs a 0 ≡ (mark_of (stage_of r) a).0
  start_at_mark xs e a h = ap (λ ys. get_or ys a 0) e ∙ get_or-take r.count r.starts a 0 h ∙ sym (start_is r a h)

  -- since they rise, a time parts them
  pub starts_parted : (xs : List ℕ) → xs ≡ take r.count r.starts → length xs ≡ r.count → (time : ℕ) → IsPartitionedBy (λ y. ltb y time) xs
  starts_parted xs e long time =
      IsPartitionedBy-ltb (λ x. x) xs time
      (IsNonDecreasingBy-from_default (λ x. x) xs 0
      (λ i j up inside.
      omega (
        arith,
        start_at_mark xs e i (omega arith),
        start_at_mark xs e j (omega arith),
        marks_rise (stage_of r) l i j up (omega (arith, count_is r)),
      )))

  pub starts_before : (xs : List ℕ) → xs ≡ take r.count r.starts → length xs ≡ r.count → (time n : ℕ) → n ≤ length xs
      → IsPartitionPoint (λ y. ltb y time ≡ true) (λ y. ltb y time ≡ false) xs n → StartBefore (stage_of r) time n
  starts_before xs e long time n within point =
      let k = count_is r in
      record {
        within = omega arith;
        early = λ a below. omega (arith, start_at_mark xs e a (omega arith), ltb-true _ _ (point.0 a 0 (omega arith) below));
        late = λ a above inside. omega (arith, start_at_mark xs e a (omega arith), ltb-false _ _ (point.1 a 0 above (omega arith)));
      }

  -- the last of the marks that start in time, where there is one
  pub latest_of : (time n : ℕ) → StartBefore (stage_of r) (time + 1) n → (o : Option ℕ) → SomeIff o (1 ≤ n) (n - 1)
      → MatchOption o (time < (mark_of (stage_of r) 0).0) (Latest (stage_of r) time)
  latest_of time n h None none =
      let z : n ≡ 0 = ⊎_elim (λ p. omega arith) (λ p. absurd (none p)) (cases_lt n 1) in
      omega (arith, h.late 0 (omega arith) l.count_low)
  latest_of time n h (Some a) (some, e) =
      record {
        present = omega (arith, h.within);
        started = omega (arith, h.early a (omega arith));
        last = λ b inside started. ⊎_elim (λ p. omega arith) (λ p. omega (arith, h.late b p inside)) (cases_lt b n);
      }

  -- the first instance from a time on, by the marks that start before it within the cycle
  pub next_from : (time n : ℕ) → StartBefore (stage_of r) (time % r.cycle) n → FirstFrom (stage_of r) time (time / r.cycle * r.count + n)
  next_from time n h =
      subst (FirstFrom (stage_of r) time) (omega (arith, ap (λ k. time / r.cycle * k) (count_is r)))
      (first_from (stage_of r) l time n h)

  pub whole_count_low : (time : ℕ) → time / r.cycle * r.count ≤ time
  whole_count_low time = omega (arith, ap (λ k. time / r.cycle * k) (count_is r), whole_low (stage_of r) l time)
