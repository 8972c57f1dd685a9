-- Steps along a list of stages by index, as a loop takes them.
-- Assumes nothing.
use Rattle.std.proofs.Common.{◌≡◌, ℕ, zero, suc, ◌+◌, ◌-◌, ◌<◌, ◌≤◌, List, [], ◌∷◌, length, get_or, drop, sym, refl, ap, ◌∙◌, subst, add-one, arith}
use Rattle.std.specs.List.{AllByRecursion}
use Rattle.std.proofs.lemmas.List.{drop_more, drop_all}
use Rattle.stage.specs.Stages.{Stage, Lawful}
use Rattle.path.specs.Timed.{last_or, first_stage, last_stage, no_stage}
use Rattle.path.specs.Steps.{hop_between, hops_from, hops_of, hop_here, hop_along, route_of, witness_to, ahead_of, back_of}
use Rattle.path.proofs.Hops.{Tied}
use Rattle.path.proofs.Along.{hops_tied}
use Rattle.path.proofs.Witness.{trace_from_steps, trace_backs, trace_from_backs, backs_positive}

-- the hops from stage k on: one, and those from the next stage on
pub hops_drop : (ss : List Stage) (d : Stage) (k : ℕ) → k + 1 < length ss → hops_of (drop k ss) ≡ hop_between (get_or ss k d) (get_or ss (k + 1) d) ∷ hops_of (drop (k + 1) ss)
hops_drop ss d k h =
    ap hops_of (drop_more ss k d (omega arith)) ∙ ap (hops_from (get_or ss k d)) next ∙ ap (λ x. hop_between (get_or ss k d) (get_or ss (k + 1) d) ∷ hops_of x) (sym next)
  where
    next : drop (k + 1) ss ≡ get_or ss (k + 1) d ∷ drop (k + 1 + 1) ss
    next = drop_more ss (k + 1) d h

-- A step ahead from stage k, and a step back to it.
pub ahead_drop : (ss : List Stage) (d : Stage) (k i : ℕ) → k + 1 < length ss → (route_of (drop k ss)).ahead i ≡ (route_of (drop (k + 1) ss)).ahead (ahead_of (get_or ss k d) (get_or ss (k + 1) d) i)
ahead_drop ss d k i h = ap (λ x. (hop_along x).ahead i) (hops_drop ss d k h)

pub back_drop : (ss : List Stage) (d : Stage) (k c : ℕ) → k + 1 < length ss → (route_of (drop k ss)).back c ≡ back_of (get_or ss k d) (get_or ss (k + 1) d) ((route_of (drop (k + 1) ss)).back c)
back_drop ss d k c h = ap (λ x. (hop_along x).back c) (hops_drop ss d k h)

-- The last stage.
hops_last : (ss : List Stage) (k : ℕ) → length ss ≡ k + 1 → hops_of (drop k ss) ≡ []
hops_last ss k h =
    ap hops_of (drop_more ss k no_stage (omega arith)) ∙ ap (hops_from (get_or ss k no_stage)) (drop_all (k + 1) ss (omega arith))

pub ahead_last : (ss : List Stage) (k i : ℕ) → length ss ≡ k + 1 → (route_of (drop k ss)).ahead i ≡ i
ahead_last ss k i h = ap (λ x. (hop_along x).ahead i) (hops_last ss k h)

pub back_last : (ss : List Stage) (k c : ℕ) → length ss ≡ k + 1 → (route_of (drop k ss)).back c ≡ c
back_last ss k c h = ap (λ x. (hop_along x).back c) (hops_last ss k h)

-- The first and the last stage by index.
pub first_stage_at : (ss : List Stage) → first_stage ss ≡ get_or ss 0 no_stage
first_stage_at [] = refl
first_stage_at (s ∷ ss) = refl

last_or_at : (s : Stage) (ss : List Stage) → last_or s ss ≡ get_or (s ∷ ss) (length ss) no_stage
last_or_at s [] = refl
last_or_at s (r ∷ ss) = last_or_at r ss

pub last_stage_at : (ss : List Stage) (k : ℕ) → length ss ≡ k + 1 → last_stage ss ≡ get_or ss k no_stage
last_stage_at [] k h = absurd (omega arith)
last_stage_at (s ∷ ss) k h = last_or_at s ss ∙ ap (λ x. get_or (s ∷ ss) x no_stage) (omega arith)

-- All of a route's hops are tied, for lawful stages.
pub all_tied : (ss : List Stage) → AllByRecursion Lawful ss → AllByRecursion Tied (hops_of ss)
all_tied [] ls = tt
all_tied (s ∷ ss) ls = hops_tied s ss ls.0 ls.1

hops_from_length : (s : Stage) (ss : List Stage) → length (hops_from s ss) ≡ length ss
hops_from_length s [] = refl
hops_from_length s (r ∷ ss) = ap suc (hops_from_length r ss)

pub hops_length : (ss : List Stage) → length (hops_of ss) ≡ length ss - 1
hops_length [] = refl
hops_length (s ∷ ss) = omega (arith, hops_from_length s ss)

-- dropping hops is dropping stages
drop_hops_from : (s : Stage) (ss : List Stage) (k : ℕ) → k ≤ length ss → drop k (hops_from s ss) ≡ hops_of (drop k (s ∷ ss))
drop_hops_from s ss zero h = refl
drop_hops_from s [] (suc k) h = absurd (omega arith)
drop_hops_from s (r ∷ ss) (suc k) h = drop_hops_from r ss k (omega arith)

pub drop_hops : (ss : List Stage) (k : ℕ) → k < length ss → drop k (hops_of ss) ≡ hops_of (drop k ss)
drop_hops [] k h = absurd (omega arith)
drop_hops (s ∷ ss) k h = drop_hops_from s ss k (omega arith)

-- Each step back to stage k is there, where the one to the first stage is.
pub steps_back : (ss : List Stage) → AllByRecursion Lawful ss → (c k : ℕ) → k < length ss → 0 < (route_of ss).back c → 0 < (route_of (drop k ss)).back c
steps_back ss ls c k h l = subst (λ x. 0 < (hop_along x).back c) (drop_hops ss k h) (backs_positive (hops_of ss) (all_tied ss ls) c k l)

-- Entry k of the path that ends at j is one less than the steps back from j + 1 to stage k.
pub witness_entry : (ss : List Stage) → AllByRecursion Lawful ss → (j k : ℕ) → k < length ss → 0 < (route_of ss).back (j + 1) → get_or (witness_to ss j) k 0 + 1 ≡ (route_of (drop k ss)).back (j + 1)
witness_entry ss ls j k h l =
    trace_backs (hops_of ss) (all_tied ss ls) j k (omega (arith, hops_length ss)) l ∙ ap (λ x. (hop_along x).back (j + 1)) (drop_hops ss k h)

-- A list of such entries is that path.
pub witness_from_entries : (ss : List Stage) → AllByRecursion Lawful ss → (j : ℕ) (p : List ℕ) → 0 < length ss → 0 < (route_of ss).back (j + 1) → length p ≡ length ss → ((k : ℕ) → k < length ss → get_or p k 0 + 1 ≡ (route_of (drop k ss)).back (j + 1)) → p ≡ witness_to ss j
witness_from_entries ss ls j p some l n at =
    let m = hops_length ss in
    trace_from_backs (hops_of ss) (all_tied ss ls) j p l (omega arith)
    (λ k h. let g : k < length ss = omega arith in at k g ∙ ap (λ x. (hop_along x).back (j + 1)) (sym (drop_hops ss k g)))

hops_from_at : (s : Stage) (ss : List Stage) (d : Stage) (k : ℕ) → k < length ss → get_or (hops_from s ss) k hop_here ≡ hop_between (get_or (s ∷ ss) k d) (get_or (s ∷ ss) (k + 1) d)
hops_from_at s [] d k h = absurd (omega arith)
hops_from_at s (r ∷ ss) d zero h = refl
hops_from_at s (r ∷ ss) d (suc k) h =
    hops_from_at r ss d k (omega arith)
    ∙ ap (λ x. hop_between (get_or (r ∷ ss) k d) x) (ap (λ x. get_or (r ∷ ss) x d) (add-one k) ∙ ap (λ x. get_or (s ∷ (r ∷ ss)) x d) (sym (add-one (suc k))))

-- The same by single steps: the last entry is j, and each entry is one step back from the next.
pub witness_from_steps : (ss : List Stage) (d : Stage) (j : ℕ) (p : List ℕ) → length p ≡ length ss → 0 < length ss → get_or p (length ss - 1) 0 ≡ j → ((k : ℕ) → k + 1 < length ss → get_or p k 0 ≡ back_of (get_or ss k d) (get_or ss (k + 1) d) (get_or p (k + 1) 0 + 1) - 1) → p ≡ witness_to ss j
witness_from_steps [] d j p n some e steps = absurd (omega arith)
witness_from_steps (s ∷ ss) d j p n some e steps =
    let m = hops_from_length s ss in
    trace_from_steps (hops_from s ss) j p (omega arith)
    (ap (λ x. get_or p x 0) (omega arith) ∙ e)
    (λ k h. steps k (omega arith) ∙ ap (λ x. x.back (get_or p (k + 1) 0 + 1) - 1) (sym (hops_from_at s ss d k (omega arith))))
