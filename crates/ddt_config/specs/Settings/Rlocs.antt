-- Prefixes of RLOCs, as 192.0.2.0/24 or 2001:db8::/32. An RLOC has no instance: its digits are those of the identifier
-- of instance 0 at this address, and a prefix is the digits of a block of instance 0.
use Rattle.std.specs.Prelude.{ℕ, Bool, List, ◌++◌, codes, Result}
use Rattle.std.specs.List.{list_any}
use Rattle.ddt_path.specs.declared.locator.Locator.{Locator}
use Rattle.ddt_path.specs.Covers.{covers}
use Rattle.ddt_path.specs.Path.{xeid_path}
use Rattle.ddt_text.specs.declared.fault.TextFault.{TextFault}
use Rattle.ddt_text.specs.FirstFault.{prefix_in}
use Rattle.ddt_text.specs.Grammar.{SpellsPrefix}

-- the digits of an RLOC: 32 zeros for instance 0, the family symbol 4 or 6, and the binary digits of the address
abbrev pub rloc_path : Locator → List ℕ
rloc_path l = xeid_path (record { iid = 0; address = l })

-- whether the digits of an RLOC begin with all those of a prefix
abbrev pub is_in : List ℕ → Locator → Bool
is_in p l = covers p (rloc_path l)

-- whether they begin with those of one of the prefixes
abbrev pub is_allowed : List (List ℕ) → Locator → Bool
is_allowed prefixes l = list_any (λ p. is_in p l) prefixes

-- `ADDRESS/LENGTH` spells the block that is spelled with [0] in front
abbrev pub with_instance : List ℕ → List ℕ
with_instance text = codes "[0]" ++ text

-- a text `ADDRESS/LENGTH` spells the prefix with these digits
abbrev pub SpellsRlocPrefix : List ℕ → List ℕ → Type 0
SpellsRlocPrefix text p = SpellsPrefix (with_instance text) p

-- the digits that a text spells, or its first fault
unfoldable pub block_in : List ℕ → Result (List ℕ) TextFault
block_in text = prefix_in (with_instance text)
