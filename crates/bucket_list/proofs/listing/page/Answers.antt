-- Each turn shows the next key; the page closes with the last one that it may show.
use Rattle.std.proofs.Common.{◌≡◌, sym, ap, ◌∙◌, ◌+◌, ◌∷◌, arith, List, drop}
use Rattle.std.specs.Prelude.{None, option_copied}
use Rattle.std.specs.Map.{lookup}
use Rattle.std.specs.BTreeMap.{is_at}
use Rattle.std.proofs.lemmas.Result.{IfOk-weaker}
use Rattle.bucket_api.specs.Metadata.{text_cmp}
use Rattle.bucket_api.specs.PageData.{PageData}
use Rattle.bucket_api.specs.Listing.{keys_after, page_of, whole_page, is_prefix_key}
use Rattle.bucket_api.specs.Pages.{ArePages, joined}
use Rattle.bucket_list.specs.Closing.{closed}
use Rattle.bucket_list.specs.Walking.{keys_left, key_text, key_object, is_prefix, IsKey}
use Rattle.bucket_list.proofs.Pages.{drop_more, items_step, prefixes_step, closes, joined_pages}
use Rattle.bucket_list.proofs.listing.page.Goals as goal

pub loop-turn-preserved : goal.loop-turn-preserved
loop-turn-preserved c =
    let es = c.args.objects.now.entries in
    let k = c.in-Some.key in
    let keys = keys_after c.args.objects.now.entries c.args.prefix.now c.args.slash (option_copied c.args.after) in
    let met : keys_left c.loop-turn.walk ≡ key_text k ∷ keys_left c.next.new.self = rw c.in-Some.is at c.in_ok-key.ensures.keys in
    let is : IsKey c.loop-turn.walk.objects.now.entries c.loop-turn.walk.prefix.now c.loop-turn.walk.slash k = rw c.in-Some.is at c.in_ok-key.ensures.key in
    let left : drop c.loop-turn._turn keys ≡ key_text k ∷ keys_left c.next.new.self = sym c.loop-turn.invariant.left ∙ met in
    let found : key_object k ≡ lookup (is_at (text_cmp (key_text k))) es = is.object ∙ ap (λ xs. lookup (is_at (text_cmp (key_text k))) xs) c.loop-turn.invariant.entries in
    let test : is_prefix k ≡ is_prefix_key c.args.prefix.now c.args.slash (key_text k) =
    is.prefix_key ∙ (ap (λ p. is_prefix_key p c.loop-turn.walk.slash (key_text k)) c.loop-turn.invariant.prefix ∙ ap (λ t. is_prefix_key c.args.prefix.now t (key_text k)) c.loop-turn.invariant.slash) in
    record {
      walk = c.in_ok-key.ensures.walk;
      entries = c.in_ok-key.ensures.same.entries ∙ c.loop-turn.invariant.entries;
      prefix = c.in_ok-key.ensures.same.prefix ∙ c.loop-turn.invariant.prefix;
      slash = c.in_ok-key.ensures.same.slash ∙ c.loop-turn.invariant.slash;
      left = sym (drop_more c.loop-turn._turn keys (key_text k) (keys_left c.next.new.self) left);
      items = items_step es c.args.prefix.now c.args.slash c.loop-turn._turn keys (key_text k) (keys_left c.next.new.self) left c.loop-turn.shown.items.items c.show.new.self.items.items (key_object k) c.loop-turn.invariant.items found c.in_ok-show.ensures.items;
      prefixes = prefixes_step es c.args.prefix.now c.args.slash c.loop-turn._turn keys (key_text k) (keys_left c.next.new.self) left c.loop-turn.shown.prefixes.items c.show.new.self.prefixes.items (is_prefix k) c.loop-turn.invariant.prefixes test c.in_ok-show.ensures.prefixes;
    }

pub returns-clause-ok : goal.returns-clause-ok
returns-clause-ok c =
    let w = c.loop-turn.walk in
    let full : c.loop-turn._turn + 1 ≡ c.args.max = omega arith in
    IfOk-weaker c.close.result
    (λ page. page ≡ closed c.loop-turn.walk.objects.now.entries c.loop-turn.walk.prefix.now c.loop-turn.walk.slash (record { items = c.loop-turn.shown.items.items; prefixes = c.loop-turn.shown.prefixes.items; next = None }) (keys_left c.loop-turn.walk))
    (λ page. page ≡ page_of c.args.objects.now.entries c.args.prefix.now c.args.slash c.args.max (option_copied c.args.after))
    (λ page e. e ∙ closes c.args.objects.now.entries c.loop-turn.walk.objects.now.entries c.args.prefix.now c.loop-turn.walk.prefix.now c.args.slash c.loop-turn.walk.slash c.args.max c.loop-turn._turn (option_copied c.args.after) c.loop-turn.shown.items.items c.loop-turn.shown.prefixes.items (keys_left c.loop-turn.walk) c.loop-turn.invariant.entries c.loop-turn.invariant.prefix c.loop-turn.invariant.slash c.loop-turn.invariant.left c.loop-turn.invariant.items c.loop-turn.invariant.prefixes full)
    c.close.ensures.ok

pub returns-clause-joined : goal.returns-clause-joined
returns-clause-joined c =
    IfOk-weaker c.close.result
    (λ page. page ≡ closed c.loop-turn.walk.objects.now.entries c.loop-turn.walk.prefix.now c.loop-turn.walk.slash (record { items = c.loop-turn.shown.items.items; prefixes = c.loop-turn.shown.prefixes.items; next = None }) (keys_left c.loop-turn.walk))
    (λ (page : PageData). (later : List PageData) → ArePages (λ key. page_of c.args.objects.now.entries c.args.prefix.now c.args.slash c.args.max key) (option_copied c.args.after) (page ∷ later) → joined (page ∷ later) ≡ whole_page c.args.objects.now.entries c.args.prefix.now c.args.slash (option_copied c.args.after))
    (λ page e later are. joined_pages c.args.objects.now.entries c.args.prefix.now c.args.slash c.args.max c.requires (option_copied c.args.after) (page ∷ later) are)
    c.close.ensures.ok
