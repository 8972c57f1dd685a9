-- The witness, entry by entry.
-- Assumes nothing.
use Rattle.std.proofs.Common.{◌≡◌, ℕ, zero, suc, ◌+◌, ◌-◌, ◌<◌, ◌≤◌, List, [], ◌∷◌, length, get_or, drop, sym, refl, ap, ◌∙◌, subst, add-one, arith}
use Rattle.std.specs.List.{AllByRecursion}
use Rattle.std.proofs.lemmas.List.{same_lists, get_or_default}
use Rattle.path.specs.Timed.{first_or, first_of}
use Rattle.path.specs.Steps.{Hop, hop_here, hop_along, trace_back}
use Rattle.path.proofs.Hops.{Tied}
use Rattle.path.proofs.Routes.{positive_inside, trace_first}

pub trace_length : (hs : List Hop) (j : ℕ) → length (trace_back hs j) ≡ length hs + 1
unfolding trace_back
trace_length [] j = refl
trace_length (h ∷ hs) j = omega (arith, trace_length hs j)

pub first_get_or : (d : ℕ) (p : List ℕ) → first_or d p ≡ get_or p 0 d
first_get_or d [] = refl
first_get_or d (i ∷ p) = refl

get_or_next : (i : ℕ) (p : List ℕ) (k : ℕ) → get_or (i ∷ p) (suc k + 1) 0 ≡ get_or p (k + 1) 0
get_or_next i p k = ap (λ x. get_or (i ∷ p) x 0) (add-one (suc k)) ∙ ap (λ x. get_or p x 0) (sym (add-one k))

pub trace_ends : (hs : List Hop) (j : ℕ) → get_or (trace_back hs j) (length hs) 0 ≡ j
unfolding trace_back
trace_ends [] j = refl
trace_ends (h ∷ hs) j = trace_ends hs j

-- each entry is one step back from the next
pub trace_steps : (hs : List Hop) (j k : ℕ) → k < length hs → get_or (trace_back hs j) k 0 ≡ (get_or hs k hop_here).back (get_or (trace_back hs j) (k + 1) 0 + 1) - 1
unfolding trace_back
trace_steps [] j k h = absurd (omega arith)
trace_steps (h ∷ hs) j zero l = ap (λ x. h.back (x + 1) - 1) (first_get_or 0 (trace_back hs j))
trace_steps (h ∷ hs) j (suc k) l =
    let e : get_or (trace_back hs j) k 0 ≡ (get_or hs k hop_here).back (get_or (trace_back hs j) (k + 1) 0 + 1) - 1 = trace_steps hs j k (omega arith) in
    e ∙ ap (λ x. (get_or hs k hop_here).back (x + 1) - 1) (sym (get_or_next (h.back (first_of (trace_back hs j) + 1) - 1) (trace_back hs j) k))

-- and a list of that length that ends at j and steps back so is the path to j
pub trace_from_steps : (hs : List Hop) (j : ℕ) (p : List ℕ) → length p ≡ length hs + 1 → get_or p (length hs) 0 ≡ j → ((k : ℕ) → k < length hs → get_or p k 0 ≡ (get_or hs k hop_here).back (get_or p (k + 1) 0 + 1) - 1) → p ≡ trace_back hs j
unfolding trace_back
trace_from_steps [] j [] n e steps = absurd (omega arith)
trace_from_steps [] j (i ∷ []) n e steps = ap (λ x. x ∷ []) e
trace_from_steps [] j (i ∷ (k ∷ p)) n e steps = absurd (omega arith)
trace_from_steps (h ∷ hs) j [] n e steps = absurd (omega arith)
trace_from_steps (h ∷ hs) j (i ∷ p) n e steps =
    let rest = trace_from_steps hs j p (omega arith) e
    (λ k l. steps (suc k) (omega arith) ∙ ap (λ x. (get_or hs k hop_here).back (x + 1) - 1) (get_or_next i p k)) in
    let here : i ≡ h.back (first_of p + 1) - 1 =
    steps 0 (omega arith) ∙ ap (λ x. h.back (x + 1) - 1) (sym (first_get_or 0 p)) in
    subst (λ q. i ∷ p ≡ (h.back (first_of q + 1) - 1) ∷ q) rest (ap (λ x. x ∷ p) here)

-- By the steps back from j: entry k is one less than what the hops from k on lead back to.

pub backs_positive : (hs : List Hop) → AllByRecursion Tied hs → (c k : ℕ) → 0 < (hop_along hs).back c → 0 < (hop_along (drop k hs)).back c
backs_positive hs t c zero l = l
backs_positive [] t c (suc k) l = l
backs_positive (h ∷ hs) t c (suc k) l = backs_positive hs t.1 c k (positive_inside h t.0 ((hop_along hs).back c) l)

pub trace_backs : (hs : List Hop) → AllByRecursion Tied hs → (j k : ℕ) → k ≤ length hs → 0 < (hop_along hs).back (j + 1) → get_or (trace_back hs j) k 0 + 1 ≡ (hop_along (drop k hs)).back (j + 1)
unfolding trace_back
trace_backs hs t j zero h l = ap (λ x. x + 1) (sym (first_get_or 0 (trace_back hs j))) ∙ trace_first hs t j l
trace_backs [] t j (suc k) h l = absurd (omega arith)
trace_backs (hp ∷ hs) t j (suc k) h l =
    trace_backs hs t.1 j k (omega arith) (positive_inside hp t.0 ((hop_along hs).back (j + 1)) l)

pub trace_from_backs : (hs : List Hop) → AllByRecursion Tied hs → (j : ℕ) (p : List ℕ) → 0 < (hop_along hs).back (j + 1) → length p ≡ length hs + 1 → ((k : ℕ) → k ≤ length hs → get_or p k 0 + 1 ≡ (hop_along (drop k hs)).back (j + 1)) → p ≡ trace_back hs j
trace_from_backs hs t j p l n at =
    same_lists p (trace_back hs j) (n ∙ sym (trace_length hs j))
    (λ k d h. get_or_default p k d 0 h
    ∙ step k (omega arith)
    ∙ get_or_default (trace_back hs j) k 0 d (omega (arith, trace_length hs j)))
  where
    step : (k : ℕ) → k ≤ length hs → get_or p k 0 ≡ get_or (trace_back hs j) k 0
    step k h = omega (arith, at k h, trace_backs hs t j k h l)
