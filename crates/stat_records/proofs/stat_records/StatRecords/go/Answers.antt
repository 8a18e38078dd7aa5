-- A record that was taken out has gone from the list.
use Rattle.std.proofs.Common.{ap, max, ◌∙◌}
use Rattle.std.specs.Option.{option_map_or}
use Rattle.stat_records.proofs.Inside.{gone-inside}
use Rattle.stat_records.proofs.stat_records.StatRecords.go.Goals as goal

pub returns : goal.returns
returns c =
    gone-inside c.self.inside.inner.entries c.self.inside.low c.self.inside.inner.cap c.args.self.now c.args.key.now c.pop_entry-out.new.self c.raised_by-self-inside.result c.self.view_is
    c.len.ensures.valid.0 c.pop_entry-out.ensures.entries
    (c.raised_by-self-inside.ensures ∙ ap (λ o. option_map_or (λ e. max c.self.inside.low e.1.moment) o c.self.inside.low) c.pop_entry-out.ensures.value)
