-- Demand 3, proved. Assumes nothing.
use mathlib.Core.List.{List, Permᴰ}
use lib.Dec.{T}
use lib.ListN.{length}
use lib.Ieee.{Float}
use Rattle.definitions.specs.Run.{Run}
use Rattle.definitions.specs.Rules.{accepted}
use Rattle.definitions.specs.Survey.{SurveyRun, Survey}
use Rattle.laws.proofs.Lists.{all_imp}
use Rattle.survey.specs.Demand3.{with_sets, list_sets, SmallGrid, Replaced, Each, Demand3}
use Rattle.survey.proofs.Exact.{exact, alike_survey, alike_steps}
use Rattle.survey.proofs.Swap.{likes, orders}
use Rattle.survey.proofs.Listing.{listing_replaces}

pub demand3 : (s : List Float) (l : List Run) → Survey s l → Demand3 s l
demand3 s l v =
    let n = length s in
    record {
      book = exact s l v;
      order = λ m p. alike_steps s l m v (orders n p);
      replaced = λ m e. alike_steps s l m v (likes n e);
      listings = all_imp (λ r. T (accepted r n) → SurveyRun r) (λ r. T (accepted r n) → SmallGrid r.sets → Replaced n r (with_sets r (list_sets r.sets))) (listing_replaces n) l v.runs;
    }

-- the list in another order, or with replacements, is a survey again, so the claim holds of it in turn
pub order_survey : (s : List Float) (l m : List Run) → Survey s l → Permᴰ l m → Survey s m
order_survey s l m v p = alike_survey s l m v (orders (length s) p)

pub replaced_survey : (s : List Float) (l m : List Run) → Survey s l → Each (Replaced (length s)) l m → Survey s m
replaced_survey s l m v e = alike_survey s l m v (likes (length s) e)
