-- BATCH_FORGET: look-ups of many nodes are given back, pair by pair, as by a FORGET each (fuse.h: `struct
-- fuse_batch_forget_in`). It has no reply.
use Rattle.std.specs.Prelude.{ℕ, ◌+◌, ◌==◌, Bool, false, [], ◌∷◌, List, Option, None, map, if◌then◌else◌}
use Rattle.std.specs.List.{list_any}
use Rattle.std.specs.Option.{option_map_or}
use Rattle.claim_spec.specs.declared.claim.Claim.{Claim}
use Rattle.fuse_replies.specs.declared.reply.Reply.TheVariants.{Silent}
use Rattle.fuse_requests.specs.declared.request.Forgotten.{Forgotten}
use Rattle.mount_rules.specs.Claiming.{owns_node}
use Rattle.mount_rules.specs.Mount.{MountModel}
use Rattle.mount_rules.specs.Plans.{done}
use Rattle.mount_rules.specs.Requests.Forget as forget
use Rattle.mount_rules.specs.Rules.{Rules, at_nodes}
use Rattle.mount_rules.specs.View.{Sight, View}

-- the pairs in their order, also one pair twice
abbrev pub after : List Forgotten → MountModel → MountModel
after [] mount = mount
after (pair ∷ more) mount = after more (forget.after pair.node pair.count mount)

-- the look-ups of a node that the pairs give back
abbrev pub given_back : List Forgotten → ℕ → ℕ
given_back [] number = 0
given_back (pair ∷ more) number = (if number == pair.node then pair.count else 0) + given_back more number

abbrev pub is_seen_live : Option Sight → Bool
is_seen_live seen = option_map_or (λ (sight : Sight). sight.live) seen false

-- where none of the nodes is live, nothing is given back
abbrev pub claims : List Forgotten → View → List Claim
claims pairs view = if list_any is_seen_live view.listed then map (λ (pair : Forgotten). owns_node pair.node) pairs else []

abbrev pub rules : List Forgotten → Rules
rules pairs = record {
  looks = at_nodes (map (λ (pair : Forgotten). pair.node) pairs);
  refusal = λ view. None;
  plan = λ taken answers. done;
  wants = λ view. None;
  claims = claims pairs;
  keys = λ view. [];
  reply = λ taken mount seen. Silent;
  after = λ taken mount seen. after pairs mount;
}
