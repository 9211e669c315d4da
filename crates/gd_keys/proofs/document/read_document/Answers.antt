use Rattle.std.proofs.Common.{◌≡◌, Bool, true, false, Option, None, if◌then◌else◌, refl, sym, ◌∙◌}
use Rattle.std.proofs.lemmas.Bool.{false≢true}
use Rattle.std.proofs.lemmas.Str.{IsUtf8-from_is_utf8, is_utf8-from_IsUtf8}
use Rattle.std.specs.Str.{is_utf8}
use Rattle.toml.specs.Data.{Members}
use Rattle.toml.specs.Parse.{parse_document}
use Rattle.gd_keys.proofs.document.read_document.Goals as goal

-- what is UTF-8 and no document, or no UTF-8, is none
none : (b : Bool) (document : Option Members) → (b ≡ true → document ≡ None) → (if b then document else None) ≡ None
none true document h = h refl
none false document h = refl

pub returns-in-Ok : goal.returns-in-Ok
returns-in-Ok c = rw (is_utf8-from_IsUtf8 _ c.in-Ok.ensures.ok.0, c.in-Ok.ensures.ok.1)

pub returns-else-is_memory : goal.returns-else-is_memory
returns-else-is_memory c =
    rw (none (is_utf8 c.args.bytes.now) (parse_document c.args.bytes.now) (λ h. c.in-Err.ensures.refused (λ m. false≢true (sym c.if-is_memory.false ∙ c.is_memory.ensures.1 m)) (IsUtf8-from_is_utf8 _ h)))
