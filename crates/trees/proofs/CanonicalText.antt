-- A canonical value reads back as it is printed.
use Rattle.std.proofs.Common.{◌≡◌, ℕ, ◌≤◌, max, suc, List, [], Option, Some, option_map, option_and_then, refl, sym, ap, ap₂, ◌∙◌, arith, append-nil}
use Rattle.json.specs.Token.{Token}
use Rattle.json.specs.Lex.{tokens}
use Rattle.json.specs.Json as json
use Rattle.json.specs.Tree as tree
use Rattle.json.proofs.Printed.Trees.{value-json_tokens}
use Rattle.serde_json.specs.Data.{Data, null, boolean, number, string, array, object, Items, no_items, item, Members, no_members, member, put, depth, items_depth, members_depth}
use Rattle.serde_json.specs.Read.{of_json, of_items, of_members, read, max_depth}
use Rattle.serde_json.specs.Written.{outline, items_outline, members_outline}
use Rattle.trees.specs.Reading.{read_within}
use Rattle.trees.specs.Canonical.{IsCanonical, AreCanonicalItems, AreCanonicalMembers}
use Rattle.trees.proofs.PutOrder.{put_all, put_all-none}

mutual
  pub canonical_reads : (d : Data) → IsCanonical d → of_json (outline d) ≡ Some d
  canonical_reads null h = refl
  canonical_reads (boolean b) h = refl
  canonical_reads (number n) h = ap (option_map number) h
  canonical_reads (string s) h = refl
  canonical_reads (array ds) h = ap (option_map array) (canonical_items_read ds h)
  canonical_reads (object ms) h = ap (option_map object) (canonical_members_read ms no_members h.1 ∙ ap Some (put_all-none ms h.0))

  pub canonical_items_read : (ds : Items) → AreCanonicalItems ds → of_items (items_outline ds) ≡ Some ds
  canonical_items_read no_items h = refl
  canonical_items_read (item d ds) h = rw (canonical_reads d h.0, canonical_items_read ds h.1) refl

  pub canonical_members_read : (ms found : Members) → AreCanonicalMembers ms → of_members (members_outline ms) found ≡ Some (put_all ms found)
  canonical_members_read no_members found h = refl
  canonical_members_read (member k d ms) found h = rw (canonical_reads d h.0) (canonical_members_read ms (put k d found) h.1)

mutual
  pub depth-outline : (d : Data) → tree.depth (outline d) ≡ depth d
  depth-outline null = refl
  depth-outline (boolean b) = refl
  depth-outline (number n) = refl
  depth-outline (string s) = refl
  depth-outline (array ds) = ap suc (items_depth-outline ds)
  depth-outline (object ms) = ap suc (members_depth-outline ms)

  pub items_depth-outline : (ds : Items) → tree.items_depth (items_outline ds) ≡ items_depth ds
  items_depth-outline no_items = refl
  items_depth-outline (item d ds) = ap₂ max (depth-outline d) (items_depth-outline ds)

  pub members_depth-outline : (ms : Members) → tree.members_depth (members_outline ms) ≡ members_depth ms
  members_depth-outline no_members = refl
  members_depth-outline (member k d ms) = ap₂ max (depth-outline d) (members_depth-outline ms)

abbrev whole : Option (json.Json × List Token) → Option Data
whole o = option_and_then of_json (option_and_then (λ p. json.if_last p.0 p.1) o)

-- a text with the tokens of a canonical value reads as that value, at each depth that it keeps to
pub read_back_within : (most : ℕ) (d : Data) (text : List ℕ) → IsCanonical d → tokens text ≡ tree.json_tokens (outline d) → depth d ≤ most → read_within most text ≡ Some d
read_back_within most d text canonical same shallow =
    ap whole (ap (json.value most) (same ∙ sym (append-nil _)) ∙ value-json_tokens (outline d) most [] (omega (arith, depth-outline d))) ∙ canonical_reads d canonical

pub read_back : (d : Data) (text : List ℕ) → IsCanonical d → tokens text ≡ tree.json_tokens (outline d) → depth d ≤ max_depth → read text ≡ Some d
read_back d text canonical same shallow = read_back_within max_depth d text canonical same shallow
