use Rattle.std.proofs.Common.{◌∙◌, ap}
use Rattle.std.specs.Prelude.{is_ok}
use Rattle.ddt_config.specs.Table.{authority_in}
use Rattle.ddt_config.specs.Place.{first_unread}
use Rattle.ddt_config.proofs.place.faulty_in.Goals as goal

pub returns-in-Some-first_unread : goal.returns-in-Some-first_unread
returns-in-Some-first_unread c =
    let found = c.in-Some-first_unread.ensures ∙ ap (first_unread (λ a. is_ok (authority_in c.in-Some.role a)) 1) c.those_at.ensures in
    rw (c.in-Some.ensures, ← found) c.faulty_in_authority.ensures
