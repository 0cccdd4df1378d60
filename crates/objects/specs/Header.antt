-- What is kept of a printed object besides its text.
use Rattle.std.specs.Prelude.{◌≡◌, ◌≢◌, ℕ, List, string_bytes}
use Rattle.std.specs.Str.{IsUtf8}
use Rattle.objects.specs.declared.header.Header.{Header}
use Rattle.objects.specs.declared.printed.IndexedText.{IndexedText}
use Rattle.objects.specs.Seams.{IsIndexedText}
use Rattle.objects.specs.PrintedText.{object_of_text}

pub record SameNumbers (m : Header) (s : IndexedText) : Type 0 where
  pub uid : m.uid ≡ s.uid
  pub revision : m.revision ≡ s.revision
  pub version : m.version ≡ s.version
  pub status : m.status ≡ s.status
  pub spec : m.spec ≡ s.spec
  pub generation : m.generation ≡ s.generation

-- the text is that of an object, and the header has the numbers of its indexed text or says nothing
pub record IsHeader (t : List ℕ) (m : Header) : Type 0 where
  pub indexed : IndexedText
  pub is : IsIndexedText (object_of_text t) indexed
  pub text : string_bytes indexed.text ≡ t
  pub utf8 : IsUtf8 t
  pub numbers : m.version ≢ 0 → SameNumbers m indexed
