-- A target is a text, and the keys of one pair rise.
use Rattle.std.proofs.Common.{◌≡◌, [], ◌∷◌, rules, subst, sym}
use Rattle.std.proofs.lemmas.Str.{IsUtf8-from_is_utf8}
use Rattle.bucket_api.specs.Metadata.{KeysRise}
use Rattle.mount_core.proofs.PairsInOrder.{one_rises}
use Rattle.mount_rules.specs.Requests.Symlink.{target_pair}
use Rattle.mount_core.proofs.making.target_pairs.Goals as goal

pub unreachable-requires : goal.unreachable-requires
unreachable-requires c = c.in_default.ensures.cases.0 (IsUtf8-from_is_utf8 c.args.target.now c.requires)

pub returns-clause-ordered : goal.returns-clause-ordered
returns-clause-ordered c =
    let made : c.push.new.self.items ≡ target_pair c.args.target.now ∷ [] = search rules in
    subst KeysRise (sym made) (one_rises (target_pair c.args.target.now))
