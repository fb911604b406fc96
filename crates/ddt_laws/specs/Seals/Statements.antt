-- What a seal is for: a text that was cut or edited is found out, and one that nobody touched is taken.
use Rattle.std.specs.Prelude.{◌≡◌, ℕ, List, Some, Ok}
use Rattle.toml.specs.Data.{Members}
use Rattle.toml.specs.Parse.{parse_document}
use Rattle.ddt_config.specs.Table.{Outline}
use Rattle.ddt_config.specs.declared.digest.seal.Seal.{Seal}
use Rattle.ddt_config.specs.declared.digest.fault.SealFault.{SealFault}
use Rattle.ddt_config.specs.Digest.Sealed.{IsSealOf, IsOtherSeal, IsSealedText, seal_in}

-- a configuration has one seal
abbrev pub SealsAreOne : Type 0
SealsAreOne = (o : Outline) (s t : Seal) → IsSealOf s o → IsSealOf t o → s ≡ t

-- a seal is read in a table, it is the configuration's own, and the check finds no other
pub record IsTaken (ms : Members) (o : Outline) : Type 0 where
  pub said : Seal
  pub is_read : seal_in ms ≡ Ok (Some said)
  pub is_own : IsSealOf said o
  pub is_taken : (fault : SealFault) → ¬ IsOtherSeal (Some said) o fault

-- the table of a text that was written with its seal is taken
abbrev pub SealedTextsAreTaken : Type 0
SealedTextsAreTaken = (text : List ℕ) (o : Outline) (ms : Members) → IsSealedText text o
    → parse_document text ≡ Some ms → IsTaken ms o
