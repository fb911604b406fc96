-- What tells its calls tells those of one part and then those of the next.
use Rattle.std.proofs.Common.{List, ◌++◌, [], append_assoc, append-nil, sym, ap, ◌∙◌}
use Rattle.std.specs.Prelude.{Option, Some, None}
use Rattle.ddt_sockets.specs.Calls.{RecordsCalls}

pub tells_both : {A : Type 0} (before : Option (List A)) (first : List A) (midway : Option (List A)) (second : List A)
    (after : Option (List A)) → RecordsCalls before first midway → RecordsCalls midway second after
    → RecordsCalls before (first ++ second) after
tells_both before first midway second None one two = tt
tells_both before first None second (Some c) one two = absurd two
tells_both None first (Some b) second (Some c) one two = absurd one
tells_both {A} (Some a) first (Some b) second (Some c) one two =
    two ∙ ap (λ (calls : List A). calls ++ second) one ∙ append_assoc a first second

-- nothing is told of no calls
pub tells_none : {A : Type 0} (told : Option (List A)) → RecordsCalls told [] told
tells_none None = tt
tells_none (Some a) = sym (append-nil a)
