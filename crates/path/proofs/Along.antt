-- Timed paths along lawful stages are the paths on the route of their hops.
-- Assumes nothing.
use Rattle.std.proofs.Common.{ℕ, ◌↔◌, List, [], ◌∷◌}
use Rattle.std.specs.List.{AllByRecursion}
use Rattle.stage.specs.Stages.{Stage, Lawful}
use Rattle.path.specs.Timed.{Timed}
use Rattle.path.specs.Steps.{hops_from}
use Rattle.path.proofs.Hops.{Tied}
use Rattle.path.proofs.Ready.{hop_tied, reaches_back, back_reaches}
use Rattle.path.proofs.Routes.{Path}

pub hops_tied : (s : Stage) (ss : List Stage) → Lawful s → AllByRecursion Lawful ss → AllByRecursion Tied (hops_from s ss)
hops_tied s [] l ls = tt
hops_tied s (r ∷ ss) l ls = (hop_tied s r l ls.0, hops_tied r ss ls.0 ls.1)

pub timed_is_path : (s : Stage) (ss : List Stage) → Lawful s → AllByRecursion Lawful ss → (p : List ℕ) → Timed (s ∷ ss) p ↔ Path (hops_from s ss) p
timed_is_path s [] l ls [] = (λ t. t, λ t. t)
timed_is_path s [] l ls (i ∷ []) = (λ t. t, λ t. t)
timed_is_path s [] l ls (i ∷ (j ∷ p)) = (λ t. t, λ t. t)
timed_is_path s (r ∷ ss) l ls [] = (λ t. t, λ t. t)
timed_is_path s (r ∷ ss) l ls (i ∷ []) = (λ t. t, λ t. t)
timed_is_path s (r ∷ ss) l ls (i ∷ (j ∷ p)) =
    let rest = timed_is_path r ss ls.0 ls.1 (j ∷ p) in
    (λ t. (reaches_back s r l ls.0 i j t.0, rest.0 t.1), λ t. (back_reaches s r l ls.0 i j t.0, rest.1 t.1))
