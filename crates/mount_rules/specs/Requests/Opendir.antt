-- OPENDIR: opens a directory. Its entries are listed at once, page after page to the last, and stay as they are for the
-- handle (fuse.h: `struct fuse_open_out`).
use Rattle.std.specs.Prelude.{ℕ, ◌+◌, true, [], ◌∷◌, Bool, List, Option, Some, None, is_some, if◌then◌else◌}
use Rattle.std.specs.FinMap as fin
use Rattle.std.specs.List.{filter_map, list_all}
use Rattle.std.specs.Option.{option_map_or}
use Rattle.bucket_api.specs.PageData.{PageData}
use Rattle.bucket_api.specs.declared.answers.Answer.{Answer}
use Rattle.bucket_api.specs.declared.answers.Answer.TheVariants as answers
use Rattle.bucket_api.specs.Operation.{list}
use Rattle.dir_listing.specs.Pages.{none_listed, with_pages}
use Rattle.fuse_replies.specs.declared.reply.Reply.{Reply}
use Rattle.fuse_replies.specs.declared.reply.Reply.TheVariants.{Error, Opened}
use Rattle.object_names.specs.ShownNames.{shown_entries}
use Rattle.object_names.specs.declared.shown.DirItem.{DirItem}
use Rattle.mount_rules.specs.Claiming.{shares_node}
use Rattle.fuse_replies.specs.Errno.{eio}
use Rattle.mount_rules.specs.Guards.{in_directory, path_in}
use Rattle.mount_rules.specs.Mount.{MountModel}
use Rattle.mount_rules.specs.Plans.{Step, answers_of, done, ask}
use Rattle.mount_rules.specs.Rules.{Rules, at_node}
use Rattle.mount_rules.specs.View.{View}

abbrev pub refusal : View → Option ℕ
refusal view = in_directory view.node (λ directory. None)

-- what the names in the directory begin with, which is its name
abbrev pub prefix_of : View → List ℕ
prefix_of view = path_in view.node []

-- each page is asked after the last key of the one before it; an answer that is no page ends the listing
abbrev pub plan : List ℕ → ℕ → Option (List ℕ) → List Answer → Step
plan prefix max after [] = ask (list prefix true max after)
plan prefix max after (answers.Page page ∷ more) = option_map_or (λ key. plan prefix max (Some key) more) page.next done
plan prefix max after (_ ∷ more) = done

-- the page of an answer that is one
abbrev pub page_in : Answer → Option PageData
page_in (answers.Page page) = Some page
page_in _ = None

abbrev pub is_page : Answer → Bool
is_page answer = is_some (page_in answer)

-- the entries of the directory, by all its pages; none where the bucket failed
abbrev pub entries : List ℕ → Bool → List Answer → Option (List DirItem)
entries prefix implicit told =
    if list_all is_page told then Some (shown_entries (with_pages (none_listed prefix implicit) (filter_map page_in told))) else None

-- the error that it is answered, 0 where it is a handle
abbrev pub errno_of : List Answer → ℕ
errno_of told = if list_all is_page told then 0 else eio

abbrev pub reply_to : MountModel → Option (List DirItem) → Reply
reply_to mount None = Error eio
reply_to mount (Some items) = Opened mount.next_handle

-- one more handle, with these entries
abbrev pub mount_after : ℕ → MountModel → Option (List DirItem) → MountModel
mount_after node mount None = mount
mount_after node mount (Some items) = record mount {
  handles = fin.insert mount.handles mount.next_handle (record { node = node; items = Some items });
  next_handle = mount.next_handle + 1;
}

abbrev pub rules : ℕ → Rules
rules node = record {
  looks = at_node node;
  refusal = refusal;
  plan = λ taken. plan (prefix_of taken.view) taken.at.config.list_page None;
  wants = λ view. None;
  claims = λ view. shares_node node ∷ [];
  keys = λ view. [];
  reply = λ taken mount seen. reply_to mount (entries (prefix_of taken.view) taken.at.config.implicit_dirs (answers_of seen));
  after = λ taken mount seen. mount_after node mount (entries (prefix_of taken.view) taken.at.config.implicit_dirs (answers_of seen));
}
