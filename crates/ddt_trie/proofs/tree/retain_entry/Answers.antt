use Rattle.std.proofs.Common.{refl, inl, inr}
use Rattle.std.proofs.lemmas.Fn.{says_at}
use Rattle.ddt_trie.proofs.tree.retain_entry.Goals as goal

pub returns-then-is_kept-clause-kept : goal.returns-then-is_kept-clause-kept
returns-then-is_kept-clause-kept g c =
    rw c.in-Some.is (inl (rw c.deref.ensures at (says_at g.F.Fn c.keep-is_kept.ensures c.if-is_kept.true), refl))

pub returns-clause-kept : goal.returns-clause-kept
returns-clause-kept g c =
    rw c.in-Some.is (inr (rw c.deref.ensures at (says_at g.F.Fn c.keep-is_kept.ensures c.if-is_kept.false), refl))
