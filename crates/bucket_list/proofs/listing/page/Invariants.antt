-- The keys so far are shown, and the walk has the others.
use Rattle.std.proofs.Common.{◌≡◌, take, drop}
use Rattle.std.specs.Prelude.{None, option_copied}
use Rattle.bucket_api.specs.Listing.{keys_after, page_showing}
use Rattle.bucket_list.specs.Walking.{IsWalk, keys_left}
use Rattle.bucket_list.proofs.listing.page.Given as goal

abbrev pub invariant-loop-turn : goal.invariant-loop-turn
invariant-loop-turn l = record {
  walk : IsWalk l.walk;
  entries : l.walk.objects.now.entries ≡ l.objects.entries;
  prefix : l.walk.prefix.now ≡ l.prefix;
  slash : l.walk.slash ≡ l.slash;
  left : keys_left l.walk ≡ drop l._turn (keys_after l.objects.entries l.prefix l.slash (option_copied l.after));
  items : l.shown.items.items ≡ (page_showing l.objects.entries l.prefix l.slash (take l._turn (keys_after l.objects.entries l.prefix l.slash (option_copied l.after))) None).items;
  prefixes : l.shown.prefixes.items ≡ (page_showing l.objects.entries l.prefix l.slash (take l._turn (keys_after l.objects.entries l.prefix l.slash (option_copied l.after))) None).prefixes;
}
