-- The lane of each directory is lawful.
use Rattle.std.proofs.Common.{◌≡◌, refl, ℕ, zero, suc, ◌+◌, ◌*◌, ◌≤◌, ◌<◌, [], ◌∷◌, length, length-append, arith, lit≤, lit<}
use Rattle.std.specs.Prelude.{map}
use Rattle.std.specs.List.{flat_map, range_with_len}
use Rattle.std.proofs.lemmas.List.Elements.{All-nil, All-cons}
use Rattle.fuse_requests.specs.declared.request.Request.{Request}
use Rattle.fuse_requests.specs.declared.request.Request.TheVariants.{Create, Write, Flush, Release, Unlink}
use Rattle.fuse_requests.specs.Text.{request_text, spelling, IsWritable}
use Rattle.fuse_requests.specs.Layout.{fields_text}
use Rattle.fuse_requests.proofs.FieldTexts.{fields_len, length-fields_text}
use Rattle.fuse_requests.proofs.FrameTexts.{length-request_text}
use Rattle.scenario.specs.Checks.{Spot}
use Rattle.scenario.specs.Lawful.{IsFix, IsLane}
use Rattle.drill_maker.specs.Steps.{node_of, handle_of}
use Rattle.drill_maker.specs.Drill.{content_of, directory_name, file_name, made, created, in_directory, on_file, making, filling, removing, directory_steps, lane_doing, directory_lane}
use Rattle.drill_maker.proofs.WritableLaws.{mkdir_writable, create_writable, write_writable, flush_writable, release_writable, unlink_writable}
use Rattle.drill_maker.proofs.StandLaws.{MayStand, MayAllStand, stand-append, stand_in, node_fits, handle_fits}

-- a frame has a head of 40 bytes, and what stands in its body
frame_len : (unique : ℕ) (request : Request) → 40 + fields_len (spelling request).fixed ≤ length (request_text unique request)
frame_len unique request =
    let long = length-request_text unique request in
    let fixed = length-fields_text (spelling request).fixed in
    let both = length-append (fields_text (spelling request).fixed) (spelling request).tail in
    omega (arith, long, fixed, both)

module _ (spot : Spot) (directory : ℕ) (lane : directory + 1 ≡ spot.lane) where
  -- what names the node of the directory stands behind the first call
  in_directory_stands : (index : ℕ) (request : Request) → 1 < index → IsWritable request → MayStand spot index (in_directory directory request)
  in_directory_stands index request behind is =
      let frame = frame_len index request in
      record {
        writable = is;
        fixes = All-cons (IsFix spot index (length (request_text index request))) (node_of (made directory)) []
            (node_fits spot index (length (request_text index request)) (made directory) lane (omega arith) (lit≤ tt) behind (omega (arith, frame)))
            (All-nil (IsFix spot index (length (request_text index request))));
      }

  -- what names the node and the handle of a file stands behind the call that creates it
  on_file_stands : (index file : ℕ) (request : Request) → 1 ≤ file → (created directory file).index < index → 8 ≤ fields_len (spelling request).fixed → IsWritable request
      → MayStand spot index (on_file directory file request)
  on_file_stands index file request first behind handle is =
      let frame = frame_len index request in
      record {
        writable = is;
        fixes = All-cons (IsFix spot index (length (request_text index request))) (node_of (created directory file)) (handle_of (created directory file) ∷ [])
            (node_fits spot index (length (request_text index request)) (created directory file) lane (omega arith) (omega (arith, first)) behind (omega (arith, frame)))
            (All-cons (IsFix spot index (length (request_text index request))) (handle_of (created directory file)) []
            (handle_fits spot index (length (request_text index request)) (created directory file) lane (omega arith) (omega (arith, first)) behind (omega (arith, frame, handle)))
            (All-nil (IsFix spot index (length (request_text index request)))));
      }

  -- a file's first call stands at four times its number, less 2
  filling_stands : (seed index file : ℕ) → 1 ≤ file → file ≤ 16 → 4 * file ≡ index + 2 → MayAllStand spot index (filling seed directory file)
  filling_stands seed index file first small is = (
    in_directory_stands index (Create 0 (file_name file)) (omega (arith, first, is)) (create_writable file (file_name file) refl small),
    (
      on_file_stands (index + 1) file (Write 0 0 0 (content_of seed directory file)) first (omega (arith, is)) (lit≤ tt)
          (write_writable seed directory file (content_of seed directory file) refl),
      (
        on_file_stands (index + 1 + 1) file (Flush 0 0) first (omega (arith, is)) (lit≤ tt) flush_writable,
        (on_file_stands (index + 1 + 1 + 1) file (Release 0 0) first (omega (arith, is)) (lit≤ tt) release_writable, tt),
      ),
    ),
  )

  -- files one behind the other
  files_stand : (seed : ℕ) (n index file : ℕ) → 1 ≤ file → file + n ≤ 17 → 4 * file ≡ index + 2 → MayAllStand spot index (flat_map (filling seed directory) (range_with_len file n))
  files_stand seed zero index file first last is = tt
  files_stand seed (suc n) index file first last is =
      stand-append spot index (filling seed directory file) (flat_map (filling seed directory) (range_with_len (file + 1) n))
      (filling_stands seed index file first (omega (arith, last)) is)
      (files_stand seed n (index + 4) (file + 1) (omega arith) (omega (arith, last)) (omega (arith, is)))

  -- a file is taken away behind the call that makes its directory
  removing_stands : (index file : ℕ) → 1 < index → file ≤ 16 → MayStand spot index (removing directory file)
  removing_stands index file behind small = in_directory_stands index (Unlink 0 (file_name file)) behind (unlink_writable file (file_name file) refl small)

  -- that call is the first
  making_stands : directory ≤ 8 → MayStand spot 1 (making directory)
  making_stands small = record {
    writable = mkdir_writable directory (directory_name directory) refl small;
    fixes = All-nil (IsFix spot 1 (length (request_text 1 (making directory).request)));
  }

  -- the whole lane
  pub directory_lane-IsLane : (seed : ℕ) → directory ≤ 8 → IsLane spot (directory_lane seed directory)
  unfolding directory_steps lane_doing
  directory_lane-IsLane seed small = stand_in spot (directory_steps seed directory)
      (stand-append spot 1 (making directory ∷ flat_map (filling seed directory) (range_with_len 1 16)) (map (removing directory) (4 ∷ 8 ∷ 12 ∷ 16 ∷ []))
      (making_stands small, files_stand seed 16 2 1 (lit≤ tt) (lit≤ tt) refl) (
        removing_stands 66 4 (lit< tt) (lit≤ tt),
        (removing_stands 67 8 (lit< tt) (lit≤ tt), (removing_stands 68 12 (lit< tt) (lit≤ tt), (removing_stands 69 16 (lit< tt) (lit≤ tt), tt))),
      ))
