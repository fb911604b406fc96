-- How long a name is. That names which pass for one are one is same_path of CoverLemmas, since both are lists of
-- numbers.
use Rattle.std.proofs.Common.{◌≡◌, ℕ, ◌≤◌, List, length, true}
use Rattle.std.specs.Prelude.{nat_le, ◌&&◌}
use Rattle.std.specs.List.{list_all}
use Rattle.std.proofs.lemmas.Bool.{and_parts, leb-true}
use Rattle.ddt_path.specs.Names.{is_name, is_name_byte}

pub is_name-bound : (bytes : List ℕ) → is_name bytes ≡ true → length bytes ≤ 63
is_name-bound bytes e =
    let short = (and_parts (nat_le 1 (length bytes) && nat_le (length bytes) 63) (list_all is_name_byte bytes) e).0 in
    leb-true (length bytes) 63 (and_parts (nat_le 1 (length bytes)) (nat_le (length bytes) 63) short).1
