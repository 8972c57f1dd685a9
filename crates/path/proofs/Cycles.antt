-- The cycles of rows in memory, and the macro-period.
-- Assumes nothing.
use Rattle.std.proofs.Common.{◌≡◌, ℕ, ◌+◌, ◌<◌, ◌≤◌, List, [], ◌∷◌, ◌++◌, length, get_or, take, Option, Some, None, MatchResult, sym, ap, ◌∙◌, subst, arith}
use native.Mathlib.Nat.{mod-eq-zero_of_dvd}
use Rattle.std.proofs.ByRecursion.{All-from_get_or}
use Rattle.std.proofs.lemmas.List.{length-map, get_or-map, take_all, take_more}
use Rattle.stage.specs.Stages.{Stage}
use Rattle.stage.specs.Periods.{Divides, CommonMultiple, IsMacroPeriod}
use Rattle.stage.specs.declared.lawful.LawfulRow.{LawfulRow}
use Rattle.stage.specs.LawfulRow.{stage_in}
use Rattle.path.specs.Given.{stages_of}
use Rattle.path.specs.Periods.{Whole, Common}
use Rattle.path.specs.Refusals.{cycles_of, HasMacroPeriod, RightLength, Refused}
use Rattle.path.specs.declared.delay.SearchFault.TheVariants.{MacroPeriod}
use Rattle.std.specs.Option.{ok_or}
use Rattle.path.specs.Timed.{no_stage}
use Rattle.path.proofs.Given.{stages_length}

cycle_at : (rows : List LawfulRow) (k : ℕ) → k < length rows
    → (l : LawfulRow) → l ≡ get_or rows k l → get_or (cycles_of (stages_of rows)) k 0 ≡ l.row.cycle
cycle_at rows k h l e =
    get_or-map (λ (s : Stage). s.cycle) (stages_of rows) k (stage_in l) 0 (omega (arith, stages_length rows))
    ∙ ap (λ (s : Stage). s.cycle) (get_or-map stage_in rows k l (stage_in l) h ∙ ap stage_in (sym e))

-- one more cycle is noted
pub cycles_more : (rows : List LawfulRow) (k : ℕ) (cycles : List ℕ) (l : LawfulRow) → k < length rows
    → cycles ≡ take k (cycles_of (stages_of rows)) → l ≡ get_or rows k l
    → cycles ++ l.row.cycle ∷ [] ≡ take (k + 1) (cycles_of (stages_of rows))
cycles_more rows k cycles l h noted e =
    ap (λ cs. cs ++ l.row.cycle ∷ []) noted
    ∙ ap (λ c. take k (cycles_of (stages_of rows)) ++ c ∷ []) (sym (cycle_at rows k h l e))
    ∙ sym (take_more (cycles_of (stages_of rows)) k 0 (omega (arith, length-map (stages_of rows) (λ (s : Stage). s.cycle), stages_length rows)))

pub cycles_all : (rows : List LawfulRow) (k : ℕ) → length rows ≤ k → take k (cycles_of (stages_of rows)) ≡ cycles_of (stages_of rows)
cycles_all rows k h = take_all k (cycles_of (stages_of rows)) (omega (arith, length-map (stages_of rows) (λ (s : Stage). s.cycle), stages_length rows))

-- a common multiple of the cycles is a span after which the stages repeat
pub common_span : (ss : List Stage) (span : ℕ) → CommonMultiple (cycles_of ss) span → Common span ss
common_span ss span c =
    record {
      positive = c.positive;
      whole =
          All-from_get_or (Whole span) ss no_stage
          (λ i h. mod-eq-zero_of_dvd (get_or ss i no_stage).cycle
          (subst (λ n. Divides n span) (get_or-map (λ (s : Stage). s.cycle) ss i no_stage 0 h)
          (c.divided i (omega (arith, length-map ss (λ (s : Stage). s.cycle))))));
    }

pub has_macro_period : (ss : List Stage) (span : ℕ) → IsMacroPeriod (cycles_of ss) (Some span) → HasMacroPeriod ss
has_macro_period ss span h = (span, h.0.common, h.1)

pub no_macro_period : (ss : List Stage) → IsMacroPeriod (cycles_of ss) None → ¬ HasMacroPeriod ss
no_macro_period ss none (span, c, low) = omega (arith, none span c)

-- the answer where the cycles have a macro-period, and the refusal where they have none
pub period_answered : (ss : List Stage) (o : Option ℕ) → RightLength ss → IsMacroPeriod (cycles_of ss) o
    → MatchResult (ok_or o MacroPeriod) (λ span. IsMacroPeriod (cycles_of ss) (Some span)) (λ fault. (room : ℕ) → Refused fault ss room)
period_answered ss None right none = λ room. (right, no_macro_period ss none)
period_answered ss (Some span) right period = period
