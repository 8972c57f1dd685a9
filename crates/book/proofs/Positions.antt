-- A list in which a test passes nowhere.
-- Assumes nothing.
use Rattle.std.proofs.Common.{◌≡◌, ℕ, zero, suc, ◌+◌, ◌<◌, Bool, true, false, cond, List, [], ◌∷◌, length, get_or, Some, None, Option, sym, refl, ◌∙◌, arith}
use Rattle.std.specs.List.{position, position_from}
use Rattle.std.proofs.lemmas.Iterator.Adapters.{position_from-zero}

cond_none : (b : Bool) (i : ℕ) (o : Option ℕ) → cond b (Some i) o ≡ None → (b ≡ false) × (o ≡ None)
cond_none true i o e = let z : ◌≡◌ {A = ℕ} 0 1 = cc in absurd (omega arith)
cond_none false i o e = (refl, e)

from_none : {X : Type 0} (p : X → Bool) (i : ℕ) (xs : List X) → position_from p i xs ≡ None
    → (k : ℕ) (d : X) → k < length xs → p (get_or xs k d) ≡ false
from_none p i [] e k d h = absurd (omega arith)
from_none p i (x ∷ xs) e zero d h = (cond_none (p x) i (position_from p (i + 1) xs) e).0
from_none p i (x ∷ xs) e (suc k) d h = from_none p (i + 1) xs (cond_none (p x) i (position_from p (i + 1) xs) e).1 k d (omega arith)

pub position-None : {X : Type 0} (p : X → Bool) (xs : List X) → position p xs ≡ None
    → (k : ℕ) (d : X) → k < length xs → p (get_or xs k d) ≡ false
position-None p xs e = from_none p 0 xs (sym (position_from-zero p xs) ∙ e)
