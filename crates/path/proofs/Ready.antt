-- The hop from one lawful stage to another: the writer's instance is there for the reader once it is ready.
-- Assumes nothing.
use Rattle.std.proofs.Common.{◌≡◌, ℕ, zero, suc, ◌+◌, ◌-◌, ◌<◌, ◌≤◌, true, false, ◌⊎◌, sym, refl, ap, ◌∙◌, inl, inr, ⊎_elim, add-one, arith}
use Rattle.std.proofs.lemmas.Bool.{cases_lt, lt-ltb, le-ltb, cond-true, cond-false}
use Rattle.stage.specs.Stages.{Stage, Lawful, start_of, stop_of}
use Rattle.stage.specs.Instances.{FirstFrom}
use Rattle.stage.proofs.Order.{in_order}
use Rattle.path.specs.Forward.{Waits, does_wait, Forward, Reaches}
use Rattle.path.specs.Steps.{count_below, ready_of, ahead_of, back_of, hop_between}
use Rattle.path.proofs.Counting.{Rising, below_there, below_back, below_not, below_only}
use Rattle.path.proofs.Hops.{Tied, Follows, reaches_joins, joins_reaches}

-- waiting or not, by its test
pub waits_cases : (w r : Stage) → ((does_wait w r ≡ true) × Waits w r) ⊎ ((does_wait w r ≡ false) × ¬ Waits w r)
waits_cases w r =
    ⊎_elim (λ h. inl (lt-ltb r.rank w.rank h, h)) (λ h. inr (le-ltb r.rank w.rank h, λ k. omega arith))
    (cases_lt r.rank w.rank)

pub ready_start : (w r : Stage) (i : ℕ) → Waits w r → ready_of w r i ≡ start_of w i
unfolding ready_of
ready_start w r i h = cond-true (does_wait w r) (start_of w i) (stop_of w i) (lt-ltb r.rank w.rank h)

pub ready_stop : (w r : Stage) (i : ℕ) → ¬ Waits w r → ready_of w r i ≡ stop_of w i
unfolding ready_of
ready_stop w r i h =
    ⊎_elim (λ k. absurd (h k.1)) (λ k. cond-false (does_wait w r) (start_of w i) (stop_of w i) k.0) (waits_cases w r)

pub back_at : (w r : Stage) (j : ℕ) → back_of w r (j + 1) ≡ count_below (ready_of w r) (start_of r j + 1)
unfolding back_of
back_at w r j = rw (add-one j) refl

pub stops_rise : (w : Stage) → Lawful w → Rising (stop_of w)
stops_rise w lw i j h =
    let o = in_order w lw in
    let a = o.stop_before_next i in
    let b = o.start_before_stop j in
    ⊎_elim (λ k. let c = o.starts_rise (i + 1) j k in omega arith)
    (λ k. let c : start_of w (i + 1) ≡ start_of w j = ap (start_of w) (omega arith) in omega arith)
    (cases_lt (i + 1) j)

module _ (w r : Stage) (lw : Lawful w) (lr : Lawful r) where
  pub ready_rises : Rising (ready_of w r)
  ready_rises i j h =
      ⊎_elim (λ k. let a = ready_start w r i k.1 in let b = ready_start w r j k.1 in
      omega (arith, (in_order w lw).starts_rise i j h))
      (λ k. let a = ready_stop w r i k.1 in let b = ready_stop w r j k.1 in omega (arith, stops_rise w lw i j h))
      (waits_cases w r)

  pub start_ready : (i : ℕ) → start_of w i ≤ ready_of w r i
  start_ready i =
      ⊎_elim (λ k. omega (arith, ready_start w r i k.1))
      (λ k. omega (arith, ready_stop w r i k.1, (in_order w lw).start_before_stop i)) (waits_cases w r)

  pub ready_forward : (i j : ℕ) → ready_of w r i ≤ start_of r j → Forward w r i j
  ready_forward i j h =
      ⊎_elim (λ k. let a = ready_start w r i k.1 in (omega arith, inr k.1))
      (λ k. let a = ready_stop w r i k.1 in let b = (in_order w lw).start_before_stop i in (omega arith, inl (omega arith)))
      (waits_cases w r)

  pub forward_ready : (i j : ℕ) → Forward w r i j → ready_of w r i ≤ start_of r j
  forward_ready i j f =
      ⊎_elim (λ k. let a = ready_start w r i k.1 in omega arith)
      (λ k. let a = ready_stop w r i k.1 in ⊎_elim (λ s. omega arith) (λ s. absurd (k.1 s)) f.1)
      (waits_cases w r)

  starts_rise : Rising (start_of r)
  starts_rise = (in_order r lr).starts_rise

  pub hop_follows : Follows (hop_between w r) (Forward w r)
  unfolding ahead_of
  hop_follows =
      record {
        from_forward = λ i j f. ⊎_elim
            (λ k. let a = below_there (start_of r) starts_rise (ready_of w r i) j k in let b = forward_ready i j f in absurd (omega arith))
            (λ k. k) (cases_lt j (count_below (start_of r) (ready_of w r i)));
        to_forward = λ i j h. ready_forward i j (below_not (start_of r) starts_rise (ready_of w r i) j h);
      }

  tie_back : (i c : ℕ) → ahead_of w r i < c → i < back_of w r c
  unfolding ahead_of back_of
  tie_back i zero h = absurd (omega arith)
  tie_back i (suc j) h =
      below_back (ready_of w r) ready_rises (start_of r j + 1) i
      (omega (arith, below_not (start_of r) starts_rise (ready_of w r i) j (omega arith)))

  tie_ahead : (i c : ℕ) → i < back_of w r c → ahead_of w r i < c
  unfolding ahead_of back_of
  tie_ahead i zero h = absurd (omega arith)
  tie_ahead i (suc j) h =
      let a = below_there (ready_of w r) ready_rises (start_of r j + 1) i h in
      ⊎_elim (λ k. let b = below_there (start_of r) starts_rise (ready_of w r i) j k in absurd (omega arith)) (λ k. omega arith)
      (cases_lt j (count_below (start_of r) (ready_of w r i)))

  pub hop_tied : Tied (hop_between w r)
  hop_tied = record { to_back = tie_back; to_ahead = tie_ahead }

  pub reaches_back : (i j : ℕ) → Reaches w r i j → i + 1 ≡ back_of w r (j + 1)
  reaches_back i j e = reaches_joins (hop_between w r) hop_tied (Forward w r) hop_follows i j e

  pub back_reaches : (i j : ℕ) → i + 1 ≡ back_of w r (j + 1) → Reaches w r i j
  back_reaches i j e = joins_reaches (hop_between w r) hop_tied (Forward w r) hop_follows i j e

  -- the first reader that starts at or after the time of readiness is the step ahead
  pub ahead_first : (i n : ℕ) → FirstFrom r (ready_of w r i) n → n ≡ ahead_of w r i
  unfolding ahead_of
  ahead_first i n f = below_only (start_of r) starts_rise (ready_of w r i) n f.earlier f.later

  -- the number of writers that are ready for reader j is the step back
  pub back_counts : (j n : ℕ) → ((i : ℕ) → i < n → ready_of w r i ≤ start_of r j) → ((i : ℕ) → ready_of w r i ≤ start_of r j → i < n) → n ≡ back_of w r (j + 1)
  back_counts j n here there =
      below_only (ready_of w r) ready_rises (start_of r j + 1) n (λ i l. omega (arith, here i l)) (λ i l. there i (omega arith))
      ∙ sym (back_at w r j)

  -- The step back from the first writer that starts after the reader does: n is the number of writers that start by then.
  module _ (j n : ℕ) (f : FirstFrom w (start_of r j + 1) n) where
    -- where the reader waits, that is it
    pub back_waiting : Waits w r → n ≡ back_of w r (j + 1)
    back_waiting h =
        back_counts j n (λ i l. omega (arith, ready_start w r i h, f.earlier i l))
        (λ i l. f.later i (omega (arith, ready_start w r i h)))

    -- where it does not and the last of them has stopped, that is it too
    pub back_stopped : ¬ Waits w r → 0 < n → stop_of w (n - 1) ≤ start_of r j → n ≡ back_of w r (j + 1)
    back_stopped h p s =
        back_counts j n
        (λ i l. let a = ready_stop w r i h in
        ⊎_elim (λ k. omega (arith, stops_rise w lw i (n - 1) k))
        (λ k. let e : stop_of w i ≡ stop_of w (n - 1) = ap (stop_of w) (omega arith) in omega arith)
        (cases_lt i (n - 1)))
        (λ i l. let a = ready_stop w r i h in f.later i (omega (arith, (in_order w lw).start_before_stop i)))

    -- where it does not and the last of them is still running, it is one less
    pub back_running : ¬ Waits w r → 0 < n → start_of r j < stop_of w (n - 1) → n - 1 ≡ back_of w r (j + 1)
    back_running h p s =
        back_counts j (n - 1)
        (λ i l. let a = ready_stop w r i h in
        let b = (in_order w lw).stop_before_next i in
        let c = f.earlier (i + 1) (omega arith) in
        omega arith)
        (λ i l. let a = ready_stop w r i h in
        ⊎_elim (λ k. k)
        (λ k. ⊎_elim (λ u. absurd (omega (arith, stops_rise w lw (n - 1) i u)))
        (λ u. let e : stop_of w i ≡ stop_of w (n - 1) = ap (stop_of w) (omega arith) in absurd (omega arith))
        (cases_lt (n - 1) i))
        (cases_lt i (n - 1)))

    -- where there is none, that is it
    pub back_nothing : n ≡ 0 → n ≡ back_of w r (j + 1)
    back_nothing e =
        back_counts j n (λ i l. absurd (omega arith))
        (λ i l. f.later i (omega (arith, start_ready i)))
