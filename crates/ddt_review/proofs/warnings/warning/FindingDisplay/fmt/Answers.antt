use Rattle.std.proofs.Common.{ℕ, List, sym, ap, subst}
use Rattle.std.specs.Fmt.{HasWritten}
use Rattle.ddt_review.specs.Warnings.Findings.{text_of}
use Rattle.ddt_review.proofs.warnings.warning.FindingDisplay.fmt.Goals as goal

pub returns-in-UnreachableLocator-clause-writes : goal.returns-in-UnreachableLocator-clause-writes
returns-in-UnreachableLocator-clause-writes g c = λ plain ok.
    subst (λ (text : List ℕ). HasWritten g.W.Write.write_str_gives c.args.f.now text c.write.new.self)
    (ap text_of (sym c.in-UnreachableLocator.is)) (c.write.ensures.writes plain ok)

pub returns-in-RepeatedEtr-clause-writes : goal.returns-in-RepeatedEtr-clause-writes
returns-in-RepeatedEtr-clause-writes g c = λ plain ok.
    subst (λ (text : List ℕ). HasWritten g.W.Write.write_str_gives c.args.f.now text c.write-in-RepeatedEtr.new.self)
    (ap text_of (sym c.in-RepeatedEtr.is)) (c.write-in-RepeatedEtr.ensures.writes plain ok)

pub returns-in-EtrIsServer-clause-writes : goal.returns-in-EtrIsServer-clause-writes
returns-in-EtrIsServer-clause-writes g c = λ plain ok.
    subst (λ (text : List ℕ). HasWritten g.W.Write.write_str_gives c.args.f.now text c.write-in-EtrIsServer.new.self)
    (ap text_of (sym c.in-EtrIsServer.is)) (c.write-in-EtrIsServer.ensures.writes plain ok)
