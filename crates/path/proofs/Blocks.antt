-- Blocks: the paths on a route, by the instance that they begin at. Said of the whole route as one hop.
-- Assumes nothing.
use Rattle.std.proofs.Common.{◌≡◌, ℕ, ◌+◌, ◌-◌, ◌<◌, ◌≤◌, ⊎_elim, arith}
use Rattle.std.proofs.lemmas.Bool.{cases_lt}
use Rattle.path.specs.Steps.{Hop, first_block, next_block}
use Rattle.path.proofs.Hops.{Tied, Joins, joins, joins_from, joins_to, ahead_rises, ahead_not}

-- the last instance that goes ahead just as far as i
abbrev pub top : Hop → ℕ → ℕ
top h i = h.back (h.ahead i + 1) - 1

-- some path begins at f: they end at ahead f, and on up to the one before ahead (f + 1)
abbrev pub Opens : Hop → ℕ → Type 0
Opens h f = h.ahead f < h.ahead (f + 1)

-- b is the largest number below f at which a path begins
pub record Before (h : Hop) (f b : ℕ) : Type 0 where
  pub earlier : b < f
  pub opens : Opens h b
  pub latest : (c : ℕ) → c < f → Opens h c → c ≤ b

pub before_only : (h : Hop) (f b c : ℕ) → Before h f b → Before h f c → b ≡ c
before_only h f b c p q = omega (arith, p.latest c q.earlier q.opens, q.latest b p.earlier p.opens)

module _ (h : Hop) (t : Tied h) where
  pub opens_joins : (f : ℕ) → Opens h f → Joins h f (h.ahead f)
  opens_joins f o = joins h t f (h.ahead f) (omega arith) o

  pub joins_opens : (f j : ℕ) → Joins h f j → Opens h f
  joins_opens f j e = omega (arith, joins_from h t f j e, joins_to h t f j e)

  -- a path from f is the first one exactly when it ends at ahead f
  pub first_ends : (f j : ℕ) → Joins h f j → ((k : ℕ) → Joins h f k → j ≤ k) → j ≡ h.ahead f
  first_ends f j e least =
      let o = joins_opens f j e in
      omega (arith, joins_from h t f j e, least (h.ahead f) (opens_joins f o))

  pub top_positive : (i : ℕ) → i < h.back (h.ahead i + 1)
  top_positive i = t.to_back i (h.ahead i + 1) (omega arith)

  pub top_low : (i : ℕ) → i ≤ top h i
  top_low i = omega (arith, top_positive i)

  pub top_same : (i : ℕ) → h.ahead (top h i) ≡ h.ahead i
  top_same i =
      let p = top_positive i in
      omega (arith, ahead_rises h t i (top h i) (top_low i), t.to_ahead (top h i) (h.ahead i + 1) (omega arith))

  pub top_opens : (i : ℕ) → Opens h (top h i)
  top_opens i =
      omega (arith, top_same i, ahead_not h t (top h i + 1) (h.ahead i + 1) (omega arith))

  pub top_between : (i b : ℕ) → i ≤ b → b < top h i → ¬ Opens h b
  top_between i b l k o =
      omega (arith, top_same i, ahead_rises h t i b l, ahead_rises h t (b + 1) (top h i) (omega arith))

  -- The first block.
  pub first_opens : Opens h (first_block h)
  first_opens = top_opens 0

  pub first_same : h.ahead (first_block h) ≡ h.ahead 0
  first_same = top_same 0

  pub none_before_first : (b : ℕ) → b < first_block h → ¬ Opens h b
  none_before_first b k = top_between 0 b (omega arith) k

  pub first_alone : (b : ℕ) → ¬ Before h (first_block h) b
  first_alone b p = none_before_first b p.earlier p.opens

  -- The block after f.
  pub next_later : (f : ℕ) → f < next_block h f
  next_later f = omega (arith, top_low (f + 1))

  pub next_same : (f : ℕ) → h.ahead (next_block h f) ≡ h.ahead (f + 1)
  next_same f = top_same (f + 1)

  pub next_opens : (f : ℕ) → Opens h (next_block h f)
  next_opens f = top_opens (f + 1)

  pub none_between : (f b : ℕ) → f < b → b < next_block h f → ¬ Opens h b
  none_between f b l k = top_between (f + 1) b (omega arith) k

  pub next_before : (f : ℕ) → Opens h f → Before h (next_block h f) f
  next_before f o =
      record {
        earlier = next_later f;
        opens = o;
        latest = λ c l k. ⊎_elim (λ s. absurd (none_between f c s l k)) (λ s. s) (cases_lt f c);
      }

  -- whatever opens after f does so no sooner than the block after f
  pub next_soonest : (f b : ℕ) → f < b → Opens h b → next_block h f ≤ b
  next_soonest f b l o = ⊎_elim (λ s. absurd (none_between f b l s o)) (λ s. s) (cases_lt b (next_block h f))
