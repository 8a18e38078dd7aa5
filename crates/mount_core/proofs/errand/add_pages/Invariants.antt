-- The pages that are left make of the listing what all make of it.
use Rattle.std.proofs.Common.{◌≡◌, drop}
use Rattle.std.specs.List.{filter_map}
use Rattle.dir_listing.specs.Pages.{with_pages}
use Rattle.mount_rules.specs.Requests.Opendir as opendir
use Rattle.mount_core.proofs.errand.add_pages.Given as goal

abbrev pub invariant-loop-answer : goal.invariant-loop-answer
invariant-loop-answer l =
    with_pages l.listing (filter_map opendir.page_in (drop l.answer-index l.answers)) ≡ with_pages l.fn.listing (filter_map opendir.page_in l.fn.answers)
