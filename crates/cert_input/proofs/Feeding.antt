-- A reader that is fed the bytes of a file as they are read.
use Rattle.std.proofs.Common.{◌≡◌, ◌≤◌, ◌<◌, ◌+◌, ◌^◌, refl, sym, ap, subst, ◌∙◌, ℕ, Bool, true, false, IsTrue, List, [], ◌++◌, take, drop, length, Option, Some, None, IsSome, IfSome, Result, Err, length-append, arith}
use Rattle.std.proofs.lemmas.List.{take_all, take-append-drop}
use Rattle.std.proofs.Math.Seq.{take-add}
use Rattle.bp_shelf.specs.Shelf.{AllShort, Files}
use Rattle.block_program.specs.Blocked.{BlockedProgram}
use Rattle.cert_format.specs.Frames.{frame_of}
use Rattle.cert_format.specs.Kept.{ReadsCertificate}
use Rattle.cert_format.specs.declared.cert.Cert.{Cert}
use Rattle.cert_format.specs.declared.fault.CertFault.{CertFault}
use Rattle.cert_format.specs.declared.fault.CertFault.TheVariants.{At, NoMemory}
use Rattle.cert_format.specs.declared.frame.Frame.{Frame}
use Rattle.cert_format.proofs.LawProofs.{seen_faults_stay, seen_faults_are_first}
use Rattle.cert_parser.specs.Builders.{Builds, Feeds}
use Rattle.cert_parser.specs.declared.reader.Reader.{Reader}
use Rattle.cert_text.specs.Programs.{frame_for}
use Rattle.cert_text.proofs.GoesWithProof.{read_by}
use Rattle.cert_input.specs.Files.{ReadsFile}
use Rattle.cert_input.specs.Fronts.{BuildsFront, BuildsFile, FaultsFile}

-- of each file the first bytes, none of them
nothing_read : (file : Option (List ℕ)) → IfSome file (λ all. [] ≡ take 0 all)
nothing_read None = tt
nothing_read (Some all) = refl

pub front_begins : (frame : Frame) (told : Bool) (file : Option (List ℕ)) (reader : Reader) → Builds frame reader [] → BuildsFront frame told file reader 0
front_begins frame told file reader h = record { text = []; builds = h; size = refl; front = λ is_told. nothing_read file }

-- the bytes behind the first ones
joined_front : (all text piece : List ℕ) (at count : ℕ) → text ≡ take at all → piece ≡ take count (drop at all) → text ++ piece ≡ take (at + count) all
joined_front all text piece at count front next =
    ap (λ (t : List ℕ). t ++ piece) front ∙ ap (λ (t : List ℕ). take at all ++ t) next ∙ sym (take-add at count all)

next_read : (file : Option (List ℕ)) (text piece : List ℕ) (at count : ℕ) → IfSome file (λ all. text ≡ take at all) → IfSome file (λ all. piece ≡ take count (drop at all))
    → IfSome file (λ all. text ++ piece ≡ take (at + count) all)
next_read None text piece at count front next = tt
next_read (Some all) text piece at count front next = joined_front all text piece at count front next

-- behind a further piece
pub front_goes_on : (frame : Frame) (told : Bool) (file : Option (List ℕ)) (old new : Reader) (piece : List ℕ) (at count : ℕ) → length piece ≡ count → at + count < 2 ^ 64
    → (IsTrue told → IfSome file (λ all. piece ≡ take count (drop at all)))
    → ((text : List ℕ) → length text + length piece < 2 ^ 64 → Builds frame old text → Builds frame new (text ++ piece))
    → BuildsFront frame told file old at → BuildsFront frame told file new (at + count)
front_goes_on frame told file old new piece at count size small next feeds h = record {
  text = h.text ++ piece;
  builds = feeds h.text (omega (arith, h.size, size, small)) h.builds;
  size = omega (arith, length-append h.text piece, h.size, size);
  front = λ is_told. next_read file h.text piece at count (h.front is_told) (next is_told);
}

no_file : IsSome (let o : Option (List ℕ) = None in o) → ⊥
no_file there = cc

whole_front : (file : Option (List ℕ)) (text : List ℕ) (at : ℕ) → IsSome file → IfSome file (λ all. text ≡ take at all) → IfSome file (λ all. length all ≤ at) → file ≡ Some text
whole_front None text at there front ends = absurd (no_file there)
whole_front (Some all) text at there front ends = ap (λ (t : List ℕ). let o : Option (List ℕ) = Some t in o) (sym (front ∙ take_all at all ends))

-- at the file's end
pub front_ends : (frame : Frame) (told : Bool) (file : Option (List ℕ)) (reader : Reader) (at : ℕ) → at < 2 ^ 64 → (IsTrue told → IsSome file)
    → (IsTrue told → IfSome file (λ all. length all ≤ at)) → BuildsFront frame told file reader at → BuildsFile frame told file reader
front_ends frame told file reader at small there ends h = record {
  text = h.text;
  builds = h.builds;
  short = omega (arith, h.size, small);
  there = λ is_told. whole_front file h.text at (there is_told) (h.front is_told) (ends is_told);
}

ends_later : (file : Option (List ℕ)) (at count : ℕ) → IfSome file (λ all. length all ≤ at) → IfSome file (λ all. length all ≤ at + count)
ends_later None at count ends = tt
ends_later (Some all) at count ends = omega (arith, ends)

-- at the file's end, behind what was read there
pub front_read_ends : (frame : Frame) (told : Bool) (file : Option (List ℕ)) (reader : Reader) (at count : ℕ) → at + count < 2 ^ 64 → (IsTrue told → IsSome file)
    → (IsTrue told → IfSome file (λ all. length all ≤ at)) → BuildsFront frame told file reader (at + count) → BuildsFile frame told file reader
front_read_ends frame told file reader at count small there ends h = front_ends frame told file reader (at + count) small there (λ is_told. ends_later file at count (ends is_told)) h

-- a fault that no further bytes can mend is the first of a text with these bytes and more
stays_first : (frame : Frame) (new : Reader) (text piece rest : List ℕ) (fault : CertFault) → Feeds frame new text piece (Err fault) → ReadsCertificate frame ((text ++ piece) ++ rest) (Err fault)
stays_first frame new text piece rest NoMemory feeds = tt
stays_first frame new text piece rest (At line kind) feeds =
    seen_faults_are_first (frame_of frame) ((text ++ piece) ++ rest) line kind (seen_faults_stay (frame_of frame) (text ++ piece) rest line kind feeds)

-- at such a fault
pub front_faults : (frame : Frame) (told : Bool) (file : Option (List ℕ)) (old new : Reader) (piece : List ℕ) (at count : ℕ) (fault : CertFault) → length piece ≡ count → at + count < 2 ^ 64
    → (IsTrue told → IsSome file) → (IsTrue told → IfSome file (λ all. length all < 2 ^ 62)) → (IsTrue told → IfSome file (λ all. piece ≡ take count (drop at all)))
    → ((text : List ℕ) → length text + length piece < 2 ^ 64 → Builds frame old text → Feeds frame new text piece (Err fault))
    → BuildsFront frame told file old at → FaultsFile frame told file fault
front_faults frame false file old new piece at count fault size small there limit next feeds h = record {
  text = (h.text ++ piece) ++ [];
  reads = stays_first frame new h.text piece [] fault (feeds h.text (omega (arith, h.size, size, small)) h.builds);
  short = omega (arith, length-append (h.text ++ piece) [], length-append h.text piece, h.size, size, small);
  there = λ is_told. absurd (cc);
}
front_faults frame true None old new piece at count fault size small there limit next feeds h = absurd (no_file (there refl))
front_faults frame true (Some all) old new piece at count fault size small there limit next feeds h =
    let least : length all < 2 ^ 62 = limit refl in
    let front : h.text ++ piece ≡ take (at + count) all = joined_front all h.text piece at count (h.front refl) (next refl) in
    let whole : (h.text ++ piece) ++ drop (at + count) all ≡ all = ap (λ (t : List ℕ). t ++ drop (at + count) all) front ∙ take-append-drop (at + count) all in
    record {
      text = all;
      reads = subst (λ (t : List ℕ). ReadsCertificate frame t (Err fault)) whole
          (stays_first frame new h.text piece (drop (at + count) all) fault (feeds h.text (omega (arith, h.size, size, small)) h.builds));
      short = omega (arith, least);
      there = λ is_told. refl;
    }

-- a file is shorter than the limit of files
pub short_front : (files : Files) (name : List ℕ) (at : ℕ) → AllShort files → 2 ^ 62 ≤ at → IfSome (files name) (λ all. length all ≤ at)
short_front files name at short far = by (files name) refl where
  by : (file : Option (List ℕ)) → files name ≡ file → IfSome file (λ all. length all ≤ at)
  by None is = tt
  by (Some all) is = let less : length all < 2 ^ 62 = short name all is in omega (arith, less, far)

-- a told file is shorter than the limit of files
pub short_file : (files : Files) (name : List ℕ) → AllShort files → IfSome (files name) (λ all. length all < 2 ^ 62)
short_file files name short = by (files name) refl where
  by : (file : Option (List ℕ)) → files name ≡ file → IfSome file (λ all. length all < 2 ^ 62)
  by None is = tt
  by (Some all) is = short name all is

-- what is read of a whole file
pub file_reads : (b : BlockedProgram) (frame : Frame) (told : Bool) (file : Option (List ℕ)) (reader : Reader) (read : Result Cert CertFault) → frame_of frame ≡ frame_for b
    → (h : BuildsFile frame told file reader) → ReadsCertificate frame h.text read → ReadsFile b told file read
file_reads b frame told file reader read same h reads = record { text = h.text; reads = read_by b frame h.text read same reads; short = h.short; there = h.there }

-- the first fault of a file
pub file_faults : (b : BlockedProgram) (frame : Frame) (told : Bool) (file : Option (List ℕ)) (fault : CertFault) → frame_of frame ≡ frame_for b
    → FaultsFile frame told file fault → ReadsFile b told file (Err fault)
file_faults b frame told file fault same h = record { text = h.text; reads = read_by b frame h.text (Err fault) same h.reads; short = h.short; there = h.there }
