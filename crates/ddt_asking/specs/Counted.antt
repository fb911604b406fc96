-- How many findings there are of each kind.
use Rattle.std.specs.Prelude.{ℕ, ◌+◌, ◌-◌, ◌^◌, ◌==◌, if◌then◌else◌, min, List, [], ◌++◌, codes, decimal}
use Rattle.ddt_asking.specs.declared.finding_counts.FindingCounts.{FindingCounts}
use Rattle.ddt_asking.specs.declared.verdict.Verdict.{Verdict}
use Rattle.ddt_asking.specs.declared.verdict.Verdict.TheVariants.{Agrees, Differs, Silent, NotJudged}

-- one more; a count has 64 bits, and stays where it is full
abbrev pub one_more : ℕ → ℕ
one_more count = min (count + 1) (2 ^ 64 - 1)

-- the counts with one more finding, by its kind
abbrev pub counted : FindingCounts → Verdict → FindingCounts
counted n Agrees = record n { agree = one_more n.agree }
counted n (Differs reply) = record n { differ = one_more n.differ }
counted n Silent = record n { silent = one_more n.silent }
counted n NotJudged = record n { not_judged = one_more n.not_judged }

-- what is said of those that are not judged: nothing where there are none
abbrev pub not_judged_text : ℕ → List ℕ
not_judged_text count = if count == 0 then [] else codes ", " ++ decimal count ++ codes " are not judged"

-- the line of the counts, without the line feed that ends it
abbrev pub counts_text : FindingCounts → List ℕ
counts_text n =
    decimal n.agree ++ codes " agree, " ++ decimal n.differ ++ codes " differ, " ++ decimal n.silent
    ++ codes " are silent" ++ not_judged_text n.not_judged
