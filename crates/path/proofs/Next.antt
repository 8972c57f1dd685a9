-- Steps that are quick to work out: the first instance from a time on by a quotient and a remainder, and the hops by it.
-- Assumes nothing.
use Rattle.std.proofs.Common.{◌≡◌, ℕ, zero, suc, ◌+◌, ◌-◌, ◌*◌, ◌/◌, ◌%◌, ◌<◌, cond, ltb, List, [], ◌∷◌, refl, ap, ◌∙◌, ⊎_elim, mod-lt, div-add-mod', add-one, arith}
use mathlib.Core.Path.{fun_ext}
use Rattle.std.specs.List.{AllByRecursion}
use Rattle.std.proofs.lemmas.Bool.{cases_lt, cases_Bool, ltb-true, ltb-false, cond-true, cond-false}
use Rattle.stage.specs.Stages.{Stage, Lawful, count_of, start_of, stop_of}
use Rattle.stage.specs.Instances.{FirstFrom}
use Rattle.stage.proofs.Order.{in_order}
use Rattle.path.specs.Forward.{Waits, does_wait}
use Rattle.path.specs.Steps.{Hop, count_to, ready_of, ahead_of, back_of, hop_between, hops_from, hops_of}
use Rattle.path.proofs.Counting.{counted}
use Rattle.path.proofs.Ready.{waits_cases, ahead_first, back_waiting, back_stopped, back_running, back_nothing}
use Rattle.path.proofs.Shift.{start_turns, start_within}

-- the first instance of s that starts at t or later
unfoldable pub next_of : Stage → ℕ → ℕ
next_of s t = t / s.cycle * count_of s + count_to (start_of s) (t % s.cycle) (count_of s)

pub next_first : (s : Stage) → Lawful s → (t : ℕ) → FirstFrom s t (next_of s t)
unfolding next_of
next_first s l t =
    let q : ℕ = t / s.cycle in
    let k : ℕ = count_of s in
    let c = counted (start_of s) (in_order s l).starts_rise (t % s.cycle) (count_of s) in
    let whole = div-add-mod' t s.cycle in
    let rest = mod-lt t l.cycle_low in
    record {
      earlier = λ i h. ⊎_elim (λ g. omega (arith, start_within s l (t / s.cycle) i g))
          (λ g. let e : start_of s ((i - q * k) + q * k) ≡ start_of s i = ap (start_of s) (omega arith) in
          omega (arith, start_turns s l (t / s.cycle) (i - q * k), c.there (i - q * k) (omega arith)))
          (cases_lt i (t / s.cycle * count_of s));
      later = λ i h. ⊎_elim (λ g. omega arith)
          (λ g. let e : start_of s ((i - q * k) + q * k) ≡ start_of s i = ap (start_of s) (omega arith) in
          let u = start_turns s l (t / s.cycle) (i - q * k) in
          let small : start_of s (i - q * k) < t % s.cycle = omega arith in
          let within : i - q * k < count_of s =
          ⊎_elim (λ n. n)
          (λ n. let e' : start_of s ((i - q * k - k) + 1 * k) ≡ start_of s (i - q * k) = ap (start_of s) (omega arith) in
          absurd (omega (arith, start_turns s l 1 (i - q * k - k))))
          (cases_lt (i - q * k) (count_of s)) in
          omega (arith, c.back (i - q * k) within small))
          (cases_lt i (t / s.cycle * count_of s));
    }

-- the step ahead and the step back by it
unfoldable pub ahead_quick : Stage → Stage → ℕ → ℕ
ahead_quick w r i = next_of r (ready_of w r i)

unfoldable pub back_quick : Stage → Stage → ℕ → ℕ
back_quick w r zero = 0
back_quick w r (suc j) =
    let n = next_of w (start_of r j + 1) in
    cond (does_wait w r) n (cond (ltb (start_of r j) (stop_of w (n - 1))) (n - 1) n)

pub ahead_quick_is : (w r : Stage) → Lawful w → Lawful r → (i : ℕ) → ahead_quick w r i ≡ ahead_of w r i
unfolding ahead_quick
ahead_quick_is w r lw lr i = ahead_first w r lw lr i (next_of r (ready_of w r i)) (next_first r lr (ready_of w r i))

module _ (w r : Stage) (lw : Lawful w) (lr : Lawful r) (j : ℕ) where
  n_of : ℕ
  n_of = next_of w (start_of r j + 1)

  -- the answer where the reader does not wait
  not_waiting : ¬ Waits w r → cond (ltb (start_of r j) (stop_of w (n_of - 1))) (n_of - 1) n_of ≡ back_of w r (j + 1)
  unfolding n_of
  not_waiting h =
      let n : ℕ = next_of w (start_of r j + 1) in
      let f = next_first w lw (start_of r j + 1) in
      ⊎_elim
      (λ some. ⊎_elim
      (λ e. cond-true (ltb (start_of r j) (stop_of w (n - 1))) (n - 1) n e
      ∙ back_running w r lw lr j n f h some (ltb-true (start_of r j) (stop_of w (n - 1)) e))
      (λ e. cond-false (ltb (start_of r j) (stop_of w (n - 1))) (n - 1) n e
      ∙ back_stopped w r lw lr j n f h some (ltb-false (start_of r j) (stop_of w (n - 1)) e))
      (cases_Bool (ltb (start_of r j) (stop_of w (n - 1)))))
      (λ none. ⊎_elim
      (λ e. cond-true (ltb (start_of r j) (stop_of w (n - 1))) (n - 1) n e
      ∙ (let z : n - 1 ≡ n = omega arith in z) ∙ back_nothing w r lw lr j n f (omega arith))
      (λ e. cond-false (ltb (start_of r j) (stop_of w (n - 1))) (n - 1) n e ∙ back_nothing w r lw lr j n f (omega arith))
      (cases_Bool (ltb (start_of r j) (stop_of w (n - 1)))))
      (cases_lt 0 n)

  back_quick_at : back_quick w r (suc j) ≡ back_of w r (j + 1)
  unfolding back_quick n_of
  back_quick_at =
      let n : ℕ = next_of w (start_of r j + 1) in
      let other : ℕ = cond (ltb (start_of r j) (stop_of w (n - 1))) (n - 1) n in
      ⊎_elim
      (λ c. cond-true (does_wait w r) n other c.0 ∙ back_waiting w r lw lr j n (next_first w lw (start_of r j + 1)) c.1)
      (λ c. cond-false (does_wait w r) n other c.0 ∙ not_waiting c.1)
      (waits_cases w r)

pub back_quick_is : (w r : Stage) → Lawful w → Lawful r → (c : ℕ) → back_quick w r c ≡ back_of w r c
unfolding back_quick back_of
back_quick_is w r lw lr zero = refl
back_quick_is w r lw lr (suc j) = back_quick_at w r lw lr j ∙ ap (back_of w r) (add-one j)

abbrev pub hop_quick : Stage → Stage → Hop
hop_quick w r = record { ahead = ahead_quick w r; back = back_quick w r }

pub hop_quick_is : (w r : Stage) → Lawful w → Lawful r → hop_quick w r ≡ hop_between w r
hop_quick_is w r lw lr =
    λ i. record { ahead = fun_ext (ahead_quick_is w r lw lr) i; back = fun_ext (back_quick_is w r lw lr) i }

abbrev pub quick_from : Stage → List Stage → List Hop
quick_from w [] = []
quick_from w (r ∷ ss) = hop_quick w r ∷ quick_from r ss

abbrev pub quick_hops : List Stage → List Hop
quick_hops [] = []
quick_hops (s ∷ ss) = quick_from s ss

quick_from_is : (s : Stage) (ss : List Stage) → Lawful s → AllByRecursion Lawful ss → quick_from s ss ≡ hops_from s ss
quick_from_is s [] l ls = refl
quick_from_is s (r ∷ ss) l ls =
    ap (λ x. x ∷ quick_from r ss) (hop_quick_is s r l ls.0) ∙ ap (λ x. hop_between s r ∷ x) (quick_from_is r ss ls.0 ls.1)

pub quick_hops_are : (ss : List Stage) → AllByRecursion Lawful ss → quick_hops ss ≡ hops_of ss
quick_hops_are [] ls = refl
quick_hops_are (s ∷ ss) ls = quick_from_is s ss ls.0 ls.1
