-- What is told of a drill that was played: one line of numbers.
use Rattle.std.specs.Prelude.{ℕ, ◌&&◌, ◌==◌, nat_le, Bool, not, List, ◌++◌, length, sum_by, codes}
use Prim.Native.String.{String}
use Rattle.std.specs.Fmt.{decimal}
use Rattle.std.specs.List.{count_by}
use Rattle.std.specs.Map.{values_of}
use Rattle.bucket_api.specs.BucketState.{BucketState}
use Rattle.fuse_head.specs.Head.{out_head_at}
use Rattle.history_text.specs.HistoryText.{History}
use Rattle.drill_maker.specs.declared.summing.Counts.{Counts}

-- the reply's head has an errno; a call without a reply has a frame of no bytes
abbrev pub is_refusal : List ℕ → Bool
is_refusal frame = nat_le 16 (length frame) && not ((out_head_at frame).errno == 0)

-- the sizes of all live objects
abbrev pub bytes_in : BucketState → ℕ
bytes_in bucket = sum_by (λ o. o.meta.size) (values_of bucket.entries)

-- all is counted from what was played
abbrev pub counts_of : History → Counts
counts_of h = record {
  calls = length h.calls;
  refused = count_by is_refusal h.replies;
  objects = length h.bucket.entries;
  bytes = bytes_in h.bucket;
  generations = h.bucket.last;
  log = length h.log;
}

-- words, and a number
abbrev pub told : String → ℕ → List ℕ
told words number = codes words ++ decimal number

abbrev pub line_of : ℕ → Counts → List ℕ
line_of seed counts =
    told "drill " seed ++ told " calls " counts.calls ++ told " refused " counts.refused ++ told " objects " counts.objects
    ++ told " bytes " counts.bytes ++ told " generations " counts.generations ++ told " log " counts.log ++ codes "\n"

abbrev pub summary_of : ℕ → History → List ℕ
summary_of seed h = line_of seed (counts_of h)
