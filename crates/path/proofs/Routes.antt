-- A route of hops: steps ahead and back along all of it, and the paths on it.
-- Assumes nothing.
use Rattle.std.proofs.Common.{◌≡◌, ℕ, ◌+◌, ◌-◌, ◌<◌, List, [], ◌∷◌, refl, ap, ◌∙◌, subst, ⊎_elim, arith}
use Rattle.std.specs.List.{AllByRecursion}
use Rattle.std.proofs.lemmas.Bool.{cases_lt}
use Rattle.path.specs.Timed.{last_or, first_of, last_of}
use Rattle.path.specs.Steps.{Hop, hop_along, trace_back}
use Rattle.path.proofs.Hops.{Tied, Joins, stay_tied, both_tied, back_none}

pub along_tied : (hs : List Hop) → AllByRecursion Tied hs → Tied (hop_along hs)
along_tied [] t = stay_tied
along_tied (h ∷ hs) t = both_tied h (hop_along hs) t.0 (along_tied hs t.1)

-- one instance for each stage on the route, each of which reaches the next
abbrev pub Path : List Hop → List ℕ → Type 0
Path hs [] = ⊥
Path [] (j ∷ []) = Unit {0}
Path [] (j ∷ (k ∷ p)) = ⊥
Path (h ∷ hs) (i ∷ []) = ⊥
Path (h ∷ hs) (i ∷ (j ∷ p)) = Joins h i j × Path hs (j ∷ p)

pub path_cons : (h : Hop) (hs : List Hop) (i : ℕ) (p : List ℕ) → Joins h i (first_of p) → Path hs p → Path (h ∷ hs) (i ∷ p)
path_cons h hs i [] e q = q
path_cons h hs i (j ∷ p) e q = (e, q)

-- the first instance of a path, from its last
pub path_joins : (hs : List Hop) (p : List ℕ) → Path hs p → Joins (hop_along hs) (first_of p) (last_of p)
path_joins [] [] q = absurd q
path_joins [] (j ∷ []) q = refl
path_joins [] (j ∷ (k ∷ p)) q = absurd q
path_joins (h ∷ hs) [] q = absurd q
path_joins (h ∷ hs) (i ∷ []) q = absurd q
path_joins (h ∷ hs) (i ∷ (j ∷ p)) q = q.0 ∙ ap h.back (path_joins hs (j ∷ p) q.1)

-- a path is determined by its last instance
pub path_only : (hs : List Hop) (p : List ℕ) → Path hs p → p ≡ trace_back hs (last_of p)
unfolding trace_back
path_only [] [] q = absurd q
path_only [] (j ∷ []) q = refl
path_only [] (j ∷ (k ∷ p)) q = absurd q
path_only (h ∷ hs) [] q = absurd q
path_only (h ∷ hs) (i ∷ []) q = absurd q
path_only (h ∷ hs) (i ∷ (j ∷ p)) q =
    let rest = path_only hs (j ∷ p) q.1 in
    let e = q.0 in
    let f : i ≡ h.back (j + 1) - 1 = omega arith in
    subst (λ l. i ∷ (j ∷ p) ≡ (h.back (first_of l + 1) - 1) ∷ l) rest (ap (λ x. x ∷ (j ∷ p)) f)

-- The path that is written out from j: it ends at j, and it is one where any path ends there.
pub trace_last : (hs : List Hop) (d j : ℕ) → last_or d (trace_back hs j) ≡ j
unfolding trace_back
trace_last [] d j = refl
trace_last (h ∷ hs) d j = trace_last hs (h.back (first_of (trace_back hs j) + 1) - 1) j

pub positive_inside : (h : Hop) → Tied h → (c : ℕ) → 0 < h.back c → 0 < c
positive_inside h t c l =
    ⊎_elim (λ k. k) (λ k. let e : h.back c ≡ h.back 0 = ap h.back (omega arith) in absurd (omega (arith, back_none h t)))
    (cases_lt 0 c)

pub trace_first : (hs : List Hop) → AllByRecursion Tied hs → (j : ℕ) → 0 < (hop_along hs).back (j + 1) → first_of (trace_back hs j) + 1 ≡ (hop_along hs).back (j + 1)
unfolding trace_back
trace_first [] t j l = refl
trace_first (h ∷ hs) t j l =
    let rest = trace_first hs t.1 j (positive_inside h t.0 ((hop_along hs).back (j + 1)) l) in
    let e = ap h.back rest in
    omega arith

pub trace_path : (hs : List Hop) → AllByRecursion Tied hs → (j : ℕ) → 0 < (hop_along hs).back (j + 1) → Path hs (trace_back hs j)
unfolding trace_back
trace_path [] t j l = tt
trace_path (h ∷ hs) t j l =
    let low = positive_inside h t.0 ((hop_along hs).back (j + 1)) l in
    let e = ap h.back (trace_first hs t.1 j low) in
    path_cons h hs (h.back (first_of (trace_back hs j) + 1) - 1) (trace_back hs j) (omega arith) (trace_path hs t.1 j low)
