-- The parts of the metadata that the store sets, put together.
use Rattle.std.proofs.Common.{◌≡◌, ℕ, Bor, List, false, Some, None, Ok, codes, refl}
use Rattle.std.specs.Prelude.{Option, option_map}
use Rattle.std.specs.Option.{is_some}
use Rattle.serde_json.specs.Data.{Data, Members}
use Rattle.serde_json.specs.Find.{get_member}
use Rattle.serde_json.specs.Written.{compact_text}
use Rattle.objects.specs.Reading.{draft_meta, draft_meta_in, generation_of, optional_text, unless_empty}
use Rattle.objects.specs.declared.fault.ReadError.TheVariants.{BadMeta}

pub none_written : (found : Option Data) (r : Option (Bor (List ℕ))) → option_map (λ (t : Bor (List ℕ)). t.now) r ≡ option_map compact_text found → is_some r ≡ false → found ≡ None
none_written None r is none = refl
none_written (Some d) None is none = absurd cc
none_written (Some d) (Some t) is none = absurd cc

pub meta_is : (ms : Members) (uid version : Option (List ℕ)) (n : ℕ) → get_member (codes "deletionTimestamp") ms ≡ None → optional_text BadMeta (get_member (codes "uid") ms) ≡ Ok uid
    → optional_text BadMeta (get_member (codes "resourceVersion") ms) ≡ Ok version → generation_of (get_member (codes "generation") ms) ≡ Ok n
    → draft_meta_in ms ≡ Ok (draft_meta (unless_empty uid) (unless_empty version) n None)
unfolding draft_meta_in
meta_is ms uid version n deletion a b c = rw (a, b, deletion, c) refl
