use Rattle.std.proofs.Common.{◌+◌, ◌≤◌, ℕ, length, take, subst, sym, arith, rules}
use Rattle.std.proofs.lemmas.List.{take_all}
use Rattle.std.specs.Io.KnownBytes.{Appends}
use Rattle.ddt_lines.proofs.PrintLemmas.{none_yet, slice_more, still, within_more}
use Rattle.ddt_lines.proofs.output.print.Goals as goal
use Rattle.ddt_lines.proofs.output.print.Goals.{in-Ok, in-Err}

pub loop-init : goal.loop-init
loop-init g c = record { within = omega arith; appended = none_yet _ }

pub loop-preserved : goal.loop-preserved
loop-preserved g c =
    let text = c.args.text.now in
    let i = c.loop.written in
    let old = g.W.Write.contents c.args.out.now in
    elim c.match-write.branch [
      | in-Ok w ↦ record {
        within = subst (λ (k : ℕ). k ≤ length text) (sym w.written-is) (within_more text i w.in-Ok.more c.loop.invariant.within w.in-Ok.ensures.bound);
        appended = subst (λ (k : ℕ). Appends old (g.W.Write.contents c.write.new.self) (take k text)) (sym w.written-is)
            (slice_more old _ _ text i w.in-Ok.more c.loop.invariant.appended w.in-Ok.ensures.bytes);
      }
      | in-Err w ↦ record {
        within = subst (λ (k : ℕ). k ≤ length text) (sym w.written-is) c.loop.invariant.within;
        appended = subst (λ (k : ℕ). Appends old (g.W.Write.contents c.write.new.self) (take k text)) (sym w.written-is)
            (still old _ _ (take i text) c.loop.invariant.appended w.in-Err.ensures.bytes);
      }
    ]

pub returns-in-Ok-eq0-clause-front : goal.returns-in-Ok-eq0-clause-front
returns-in-Ok-eq0-clause-front g c = (c.loop.written + 0, slice_more _ _ _ c.args.text.now c.loop.written 0 c.loop.invariant.appended (search (rules, c.write.ensures.bytes)))

pub returns-in-Err-2-clause-front : goal.returns-in-Err-2-clause-front
returns-in-Err-2-clause-front g c = (c.loop.written, still _ _ _ (take c.loop.written c.args.text.now) c.loop.invariant.appended c.in-Err.ensures.bytes)

pub returns-then-written-text-clause-whole : goal.returns-then-written-text-clause-whole
returns-then-written-text-clause-whole g c =
    let text = c.args.text.now in
    subst (Appends _ _) (take_all c.loop.written text (omega arith)) c.loop.invariant.appended
