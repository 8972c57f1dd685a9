-- One hop, from a writer's instances to a reader's, whatever the rule by which they go forward.
-- Assumes nothing.
use Rattle.std.proofs.Common.{◌≡◌, ℕ, ◌+◌, ◌<◌, ◌≤◌, ⊎_elim, arith}
use Rattle.std.proofs.lemmas.Bool.{cases_lt}
use Rattle.path.specs.Steps.{Hop, hop_here, hop_then}

-- what ties the two: everything about routes rests on these two lines
pub record Tied (h : Hop) : Type 0 where
  pub to_back : (i c : ℕ) → h.ahead i < c → i < h.back c
  pub to_ahead : (i c : ℕ) → i < h.back c → h.ahead i < c

-- the hop follows a rule of going forward
pub record Follows (h : Hop) (forward : ℕ → ℕ → Type 0) : Type 0 where
  pub from_forward : (i j : ℕ) → forward i j → h.ahead i ≤ j
  pub to_forward : (i j : ℕ) → h.ahead i ≤ j → forward i j

-- i reaches j, by the step back
abbrev pub Joins : Hop → ℕ → ℕ → Type 0
Joins h i j = i + 1 ≡ h.back (j + 1)

pub stay_tied : Tied hop_here
stay_tied = record { to_back = λ i c h. h; to_ahead = λ i c h. h }

pub both_tied : (h k : Hop) → Tied h → Tied k → Tied (hop_then h k)
both_tied h k s t =
    record {
      to_back = λ i c l. s.to_back i (k.back c) (t.to_back (h.ahead i) c l);
      to_ahead = λ i c l. t.to_ahead (h.ahead i) c (s.to_ahead i (k.back c) l);
    }

module _ (h : Hop) (t : Tied h) where
  pub ahead_not : (i c : ℕ) → h.back c ≤ i → c ≤ h.ahead i
  ahead_not i c l = ⊎_elim (λ k. absurd (omega (arith, t.to_back i c k))) (λ k. k) (cases_lt (h.ahead i) c)

  pub back_not : (i c : ℕ) → c ≤ h.ahead i → h.back c ≤ i
  back_not i c l = ⊎_elim (λ k. absurd (omega (arith, t.to_ahead i c k))) (λ k. k) (cases_lt i (h.back c))

  pub ahead_rises : (i j : ℕ) → i ≤ j → h.ahead i ≤ h.ahead j
  ahead_rises i j l =
      let a = t.to_back j (h.ahead j + 1) (omega arith) in
      let b = t.to_ahead i (h.ahead j + 1) (omega arith) in
      omega arith

  pub back_rises : (c d : ℕ) → c ≤ d → h.back c ≤ h.back d
  back_rises c d l = back_not (h.back d) c (omega (arith, ahead_not (h.back d) d (omega arith)))

  pub back_none : h.back 0 ≡ 0
  back_none = omega (arith, back_not 0 0 (omega arith))

  -- i reaches exactly the readers from ahead i up to the one before ahead (i + 1)
  pub joins_from : (i j : ℕ) → Joins h i j → h.ahead i ≤ j
  joins_from i j e = omega (arith, t.to_ahead i (j + 1) (omega arith))

  pub joins_to : (i j : ℕ) → Joins h i j → j < h.ahead (i + 1)
  joins_to i j e = omega (arith, ahead_not (i + 1) (j + 1) (omega arith))

  pub joins : (i j : ℕ) → h.ahead i ≤ j → j < h.ahead (i + 1) → Joins h i j
  joins i j a b =
      let p = t.to_back i (j + 1) (omega arith) in
      let q = back_not (i + 1) (j + 1) (omega arith) in
      omega arith

  -- Reaching, by any rule that the hop follows.
  pub reaches_joins : (forward : ℕ → ℕ → Type 0) → Follows h forward → (i j : ℕ) → forward i j × ¬ forward (i + 1) j → Joins h i j
  reaches_joins forward f i j r =
      joins i j (f.from_forward i j r.0)
      (⊎_elim (λ k. k) (λ k. absurd (r.1 (f.to_forward (i + 1) j k))) (cases_lt j (h.ahead (i + 1))))

  pub joins_reaches : (forward : ℕ → ℕ → Type 0) → Follows h forward → (i j : ℕ) → Joins h i j → forward i j × ¬ forward (i + 1) j
  joins_reaches forward f i j e =
      (f.to_forward i j (joins_from i j e), λ k. let a = f.from_forward (i + 1) j k in omega (arith, joins_to i j e))
