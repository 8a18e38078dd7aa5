-- A good input, with no count that rose, is served to its end, but for want of memory.
use Rattle.std.proofs.Common.{◌≡◌, ◌<◌, ◌≤◌, ◌++◌, ◌⊎◌, inl, inr, [], List, ℕ, length, take, drop, subst, sym, refl, ap, ◌∙◌, arith, append-nil, append_assoc, length-append, Option, Some, None}
use Rattle.std.specs.Io.KnownBytes.{Consumes, IsAtEnd}
use Rattle.std.proofs.lemmas.List.{take-append-drop}
use Rattle.io_ports.specs.Faults.{Rose}
use Rattle.fuse_frames.specs.Cut.{Cuts, IsBad}
use Rattle.fuse_frames.proofs.CutLemmas.{cuts_prefix, cuts_unique}
use Rattle.fuse_frames.proofs.FrontLemmas.{bad_append, bad_told, unfinished_bad}
use Rattle.mount_model.specs.declared.config.Config.{Config}
use Rattle.io_ports.specs.Ports.{Port}
use Rattle.gcsmount.specs.Serve.{CountsReads, CountsWrites, EndsBy, IsDoneOrNoMemory, IsGood, Streams, longest_input}
use Rattle.gcsmount.specs.Tool.{EndsWith}
use Rattle.gcsmount.proofs.ServeLaws.{take_all}
use Rattle.gcsmount.specs.declared.serve_end.ServeEnd.{ServeEnd}
use Rattle.gcsmount.specs.declared.serve_end.ServeEnd.TheVariants.{Ended, Refused, ReadFault, WriteFault, NoMemory, TooLong}

-- what is left of the input is known, and the bytes taken are its front
module _ (input : List ℕ) where
  split_of : (left : Option (List ℕ)) (taken : List ℕ) → Consumes (Some input) left taken → (rest : List ℕ) × (input ≡ taken ++ rest)
  split_of None taken consumed = absurd consumed
  split_of (Some rest) taken consumed = (rest, consumed)

  whole_of : (left : Option (List ℕ)) (taken : List ℕ) → Consumes (Some input) left taken → IsAtEnd left → input ≡ taken
  whole_of None taken consumed at_end = absurd consumed
  whole_of (Some rest) taken consumed at_end = consumed ∙ ap (λ back. taken ++ back) at_end ∙ append-nil taken

-- no frames are cut off bytes that begin with a bad len
bad_is_rest : (bytes : List ℕ) (frames : List (List ℕ)) → IsBad bytes → Cuts bytes frames [] → ⊥
bad_is_rest bytes frames bad cut =
    let stays : Cuts bytes [] bytes = record { joined = refl; whole = λ k d none. absurd (let never : k < 0 = none in omega arith); unfinished = unfinished_bad bytes bad } in
    let none : bytes ≡ [] = (cuts_unique stays cut).1 in
    let told : 4 ≤ length bytes = bad_told bytes bad in
    omega (arith, ap length none)

-- a front that ends in a bad len is no front of whole frames
bad_is_no_front : (front more rest : List ℕ) (frames others : List (List ℕ)) → IsBad rest → Cuts front frames rest → Cuts (front ++ more) others [] → ⊥
bad_is_no_front front more rest frames others bad cut whole =
    let behind = cuts_prefix more cut whole in bad_is_rest (rest ++ more) behind.0 (bad_append rest more bad) behind.2

-- the first bytes of what was taken are the front of the input
front_of : (input taken rest : List ℕ) → input ≡ taken ++ rest → input ≡ take longest_input taken ++ (drop longest_input taken ++ rest)
front_of input taken rest is =
    is ∙ ap (λ front. front ++ rest) (sym (take-append-drop longest_input taken)) ∙ append_assoc (take longest_input taken) (drop longest_input taken) rest

pub Streams-complete : (config : Config) (end : ServeEnd) (source source' sink sink' : Port) (input : List ℕ)
    → Streams config end source source' sink sink' → source.bytes ≡ Some input → IsGood input
    → (Rose source.faults source'.faults → ⊥) → (Rose sink.faults sink'.faults → ⊥) → IsDoneOrNoMemory end
Streams-complete config end source source' sink sink' input streams is good source_held sink_held =
    cases end streams.ended streams.reads streams.writes
  where
    consumed : Consumes (Some input) source'.bytes streams.taken
    consumed = subst (λ left. Consumes left source'.bytes streams.taken) is streams.consumed

    split : (rest : List ℕ) × (input ≡ streams.taken ++ rest)
    split = split_of input source'.bytes streams.taken consumed

    cases : (end : ServeEnd) → EndsBy config end source' streams.taken streams.put → CountsReads end source source' → CountsWrites end sink sink' → IsDoneOrNoMemory end
    cases Ended ends reads writes = tt
    cases NoMemory ends reads writes = tt
    cases ReadFault ends reads writes = absurd (source_held reads)
    cases WriteFault ends reads writes = absurd (sink_held writes)
    cases TooLong ends reads writes = absurd (omega (arith, ends.0, good.fits, ap length split.1, length-append streams.taken split.0))
    cases (Refused number at) (rest, answered, placed, inl bad) reads writes =
        absurd (bad_is_no_front _ _ rest answered.frames good.frames (inl bad.1) answered.cut (subst (λ all. Cuts all good.frames []) (front_of input streams.taken split.0 split.1) good.cut))
    cases (Refused number at) (rest, answered, placed, inr (inl bad)) reads writes =
        absurd (bad_is_no_front _ _ rest answered.frames good.frames (inr bad.1) answered.cut (subst (λ all. Cuts all good.frames []) (front_of input streams.taken split.0 split.1) good.cut))
    cases (Refused number at) (rest, answered, placed, inr (inr (number_is, sound, waits, (fits, at_end)))) reads writes =
        let all : take longest_input streams.taken ≡ input = take_all longest_input streams.taken fits ∙ sym (whole_of input source'.bytes streams.taken consumed at_end) in
        absurd (waits (cuts_unique (subst (λ front. Cuts front answered.frames rest) all answered.cut) good.cut).1)

-- the status of an end at which all was served, or of want of memory
pub EndsWith-done : (end : ServeEnd) (notes notes' : Port) (status : ℕ) → EndsWith end notes notes' status → IsDoneOrNoMemory end → (status ≡ 0) ⊎ (status ≡ 5)
EndsWith-done Ended notes notes' status ends done = inl ends.0
EndsWith-done NoMemory notes notes' status ends done = inr ends.0
EndsWith-done (Refused number at) notes notes' status ends done = absurd done
EndsWith-done ReadFault notes notes' status ends done = absurd done
EndsWith-done WriteFault notes notes' status ends done = absurd done
EndsWith-done TooLong notes notes' status ends done = absurd done
