-- The stages along a route in memory, the first and the last of them, and the steps along it.
-- Assumes nothing.
use Rattle.std.specs.Prelude.{◌≡◌, ℕ, ◌+◌, ◌^◌, ◌<◌, List}
use Rattle.stage.specs.Stages.{Stage, start_of}
use Rattle.path.specs.declared.route.Route.{Route}
use Rattle.path.specs.Given.{stages_of}
use Rattle.path.specs.Steps.{Hop, route_of}
use Rattle.path.specs.Timed.{first_stage, last_stage}

abbrev pub stages_along : Route → List Stage
stages_along route = stages_of route.rows.now

abbrev pub first_along : Route → Stage
first_along route = first_stage (stages_along route)

abbrev pub last_along : Route → Stage
last_along route = last_stage (stages_along route)

abbrev pub steps_along : Route → Hop
steps_along route = route_of (stages_along route)

-- a path ends at instance j of the last stage, which starts early enough for times to fit
pub record EndsPath (route : Route) (j : ℕ) : Type 0 where
  pub early : start_of (last_along route) j < 2 ^ 40
  pub there : 0 < (steps_along route).back (j + 1)

-- A block's paths end first at instance `near` of the last stage: some instance of the first stage leads to it, and the
-- one after the block's begins early enough.
pub record OpensBlock (route : Route) (near : ℕ) : Type 0 where
  pub from : ℕ
  pub leads : near ≡ (steps_along route).ahead from
  pub ends : EndsPath route near
  pub early : start_of (first_along route) ((steps_along route).back (near + 1)) < 2 ^ 36
