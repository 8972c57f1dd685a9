-- Steps ahead and back along stages, by which timed paths can be found.
-- No promise about figures rests on these words; they name what one step of a search answers.
-- Assumes nothing.
use Rattle.std.specs.Prelude.{ℕ, zero, suc, ◌+◌, ◌-◌, cond, List, [], ◌∷◌, Option, Some, nat_lt}
use Rattle.stage.specs.Stages.{Stage, start_of, stop_of}
use Rattle.path.specs.declared.semantics.Semantics.{Semantics}
use Rattle.path.specs.declared.semantics.Semantics.TheVariants.{LL, LF, FL, FF}
use Rattle.path.specs.Forward.{does_wait}
use Rattle.path.specs.Timed.{first_of}

-- how many of the first n values of f lie below t
unfoldable pub count_to : (ℕ → ℕ) → ℕ → ℕ → ℕ
count_to f t zero = 0
count_to f t (suc n) = cond (nat_lt (f n) t) (count_to f t n + 1) (count_to f t n)

-- how many values of f lie below t, where f rises with every step
unfoldable pub count_below : (ℕ → ℕ) → ℕ → ℕ
count_below f t = count_to f t t

-- A hop leads from a writer's instances to a reader's. ahead i is the first reader that writer i goes forward to;
-- back (j + 1) is how many writers go forward to reader j, and back 0 is 0.
pub record Hop : Type 0 where
  pub ahead : ℕ → ℕ
  pub back : ℕ → ℕ

-- the time from which what instance i of w writes is there for r
unfoldable pub ready_of : Stage → Stage → ℕ → ℕ
ready_of w r i = cond (does_wait w r) (start_of w i) (stop_of w i)

-- the first reader that starts from then on
unfoldable pub ahead_of : Stage → Stage → ℕ → ℕ
ahead_of w r i = count_below (start_of r) (ready_of w r i)

-- how many writers are ready by the start of the reader before c
unfoldable pub back_of : Stage → Stage → ℕ → ℕ
back_of w r zero = 0
back_of w r (suc j) = count_below (ready_of w r) (start_of r j + 1)

abbrev pub hop_between : Stage → Stage → Hop
hop_between w r = record { ahead = ahead_of w r; back = back_of w r }

-- the hops along stages
abbrev pub hops_from : Stage → List Stage → List Hop
hops_from w [] = []
hops_from w (r ∷ ss) = hop_between w r ∷ hops_from r ss

abbrev pub hops_of : List Stage → List Hop
hops_of [] = []
hops_of (s ∷ ss) = hops_from s ss

-- the hop from each instance to itself, and two hops one after the other
abbrev pub hop_here : Hop
hop_here = record { ahead = λ i. i; back = λ c. c }

abbrev pub hop_then : Hop → Hop → Hop
hop_then h k = record { ahead = λ i. k.ahead (h.ahead i); back = λ c. h.back (k.back c) }

-- all the hops of a route as one
abbrev pub hop_along : List Hop → Hop
hop_along [] = hop_here
hop_along (h ∷ hs) = hop_then h (hop_along hs)

abbrev pub route_of : List Stage → Hop
route_of ss = hop_along (hops_of ss)

-- the first instance that begins a path, and the next one after f
abbrev pub first_block : Hop → ℕ
first_block h = h.back (h.ahead 0 + 1) - 1

abbrev pub next_block : Hop → ℕ → ℕ
next_block h f = h.back (h.ahead (f + 1) + 1) - 1

-- the path that ends at j, written out by stepping back from j
unfoldable pub trace_back : List Hop → ℕ → List ℕ
trace_back [] j = j ∷ []
trace_back (h ∷ hs) j = (h.back (first_of (trace_back hs j) + 1) - 1) ∷ trace_back hs j

abbrev pub witness_to : List Stage → ℕ → List ℕ
witness_to ss j = trace_back (hops_of ss) j

-- the instance from which delays in block f are counted, where paths of it count: p is the block before it, if there is one
abbrev pub origin_in : Semantics → ℕ → Option ℕ → Option ℕ
origin_in LL f p = Some f
origin_in LF f p = Some f
origin_in FL f p = p
origin_in FF f p = p

-- the end that takes longest in a block, whose paths end from `near` up to the one before `far`
abbrev pub end_in : Semantics → ℕ → ℕ → ℕ
end_in LL near far = far - 1
end_in LF near far = near
end_in FL near far = far - 1
end_in FF near far = near
