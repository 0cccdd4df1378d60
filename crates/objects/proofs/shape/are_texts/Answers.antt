use Rattle.std.proofs.Common.{◌≡◌, ℕ, List, [], ◌∷◌, ◌&&◌, refl, ap, ◌∙◌, rules, tests}
use Rattle.std.specs.List.{list_all}
use Rattle.std.specs.Option.{is_some}
use Rattle.std.proofs.lemmas.Iterator.{YieldsList-from_slice}
use Rattle.std.proofs.lemmas.Iterator.Search.{all_from_yields_List}
use Rattle.serde_json.specs.Find.{as_str}
use Rattle.trees.specs.declared.tree.Tree.{Tree}
use Rattle.trees.specs.Tree.{data_of, members_of}
use Rattle.objects.specs.MetadataShape.{are_texts}
use Rattle.objects.proofs.shape.are_texts.Goals as goal

texts_of : (es : List (List ℕ × Tree)) → list_all (λ e. is_some (as_str (data_of e.1))) es ≡ are_texts (members_of es)
texts_of [] = refl
texts_of (e ∷ es) = ap (λ b. is_some (as_str (data_of e.1)) && b) (texts_of es)

pub returns : goal.returns
returns c = all_from_yields_List (λ e. is_some (as_str (data_of e.1))) _ _ _ c.all.ensures.ran (YieldsList-from_slice c.args.entries.now cc) (λ x b q k. search (rules, tests)) ∙ texts_of c.args.entries.now
