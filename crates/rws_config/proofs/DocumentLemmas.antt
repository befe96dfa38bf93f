-- The document that a text is, of bytes that are UTF-8 and of others.
use Rattle.std.proofs.Common.{◌≡◌, ℕ, Bool, true, false, List, None, Some, refl}
use Rattle.std.specs.Str.{IsUtf8, is_utf8}
use Rattle.std.proofs.lemmas.Str.{IsUtf8-from_is_utf8, is_utf8-from_IsUtf8}
use Rattle.toml.specs.Data.{Members}
use Rattle.toml.specs.Parse.{parse_document}
use Rattle.rws_config.specs.Settings.{document_of}

pub document_read : (text : List ℕ) (file : Members) → IsUtf8 text → parse_document text ≡ Some file → document_of text ≡ Some file
document_read text file utf8 e = rw (is_utf8-from_IsUtf8 text utf8) e

pub document_refused : (text : List ℕ) → (IsUtf8 text → parse_document text ≡ None) → document_of text ≡ None
document_refused text none = by (is_utf8 text) refl
  where
    by : (utf8 : Bool) → is_utf8 text ≡ utf8 → document_of text ≡ None
    by true e = rw e (none (IsUtf8-from_is_utf8 text e))
    by false e = rw e refl
