-- From what was opened, and what came and was written behind it, to what was written of the whole batch.
use Rattle.std.proofs.Common.{◌≡◌, ◌≢◌, ℕ, ◌+◌, ◌-◌, ◌/◌, ◌≤◌, min, Option, Some, List, ◌++◌, [], ◌∷◌, length, take, inl, inr, refl, sym, ap, subst, Result, Err, ◌∙◌, ◌⊎◌, arith, append_assoc, append-nil, length-append, ⊎_elim}
use Rattle.std.specs.List.{concat, flat_map}
use Rattle.std.specs.Prelude.{All}
use Rattle.std.specs.Io.KnownBytes.{Appends, Consumes}
use Rattle.std.proofs.KnownBytes.{Appends-trans, Consumes-trans, Keeps-refl}
use Rattle.std.proofs.lemmas.List.{take_at}
use Rattle.std.proofs.lemmas.Grind.{flat_map-append}
use Rattle.flp_io.specs.Reads.{ConsumesSome}
use Rattle.flp_io.specs.Writes.{TakesPrefix}
use Rattle.flp_io.proofs.WriteLemmas.{TakesPrefix-more, TakesPrefix-after}
use Rattle.flp_report.specs.declared.header.Header.{Header}
use Rattle.flp_report.specs.declared.shape.Shape.{Shape}
use Rattle.flp_report.specs.Batch.{IsFront, header_of, whole_of, whole_records}
use Rattle.flp_report.specs.Buckets.{HasBucket, placed}
use Rattle.flp_report.specs.Nonces.{nonces_in}
use Rattle.flp_report.specs.Shape.{bytes_of}
use Rattle.flp_report.proofs.BatchHeadLemmas.{header_of-more}
use Rattle.flp_report.proofs.BucketLemmas.{placed-one, placed-behind}
use Rattle.flp_report.proofs.LawLemmas.{whole_records-first}
use Rattle.flp_report.proofs.PiecesLemmas.{length-pieces}
use Rattle.flp_batch.specs.declared.fault.EngineFault.{EngineFault}
use Rattle.flp_batch.specs.declared.fault.EngineFault.TheVariants.{Write}
use Rattle.flp_batch.specs.declared.front.Opened.{Opened}
use Rattle.flp_batch.specs.Cut.{settled}
use Rattle.flp_batch.specs.Ends.{Ends}
use Rattle.flp_batch.specs.Format.{newest_read}
use Rattle.flp_batch.specs.Lines.{lines_from, lines_of}
use Rattle.flp_batch.specs.Opened.{setting_of, IsOpened, Opens}
use Rattle.flp_batch.specs.Walk.{Stops, Settles, TellsOf, StopsWalk}
use Rattle.flp_batch.proofs.BatchLemmas.{whole-behind}
use Rattle.flp_batch.proofs.FileLemmas.{behind}
use Rattle.flp_party.specs.Share.{dealt_record, share_front, share_file}
use Rattle.flp_party.specs.Dealing.{words_dealt}
use Rattle.flp_party.specs.Reply.{file_of, WritesShare, StopsShare, SettlesShare}

-- ---- the file behind what was opened

-- what is made of each record whatever the others is made of all of them
lines_from-each : (f : List ℕ → List ℕ) (earlier records : List (List ℕ)) → lines_from (λ _. f) earlier records ≡ flat_map f records
lines_from-each f earlier [] = refl
lines_from-each f earlier (r ∷ rs) = ap (λ (l : List ℕ). f r ++ l) (lines_from-each f (earlier ++ r ∷ []) rs)

-- the header of a batch is what was read of it
header-front : (party : Option ℕ) (shape : Shape) (front rest : List ℕ) (header : Header) → IsFront newest_read party shape front header → header_of (front ++ rest) ≡ header
header-front party shape front rest header f =
    ap (λ (b : List ℕ). header_of (b ++ rest)) f.is
    ∙ (ap header_of (append_assoc f.head f.claims rest)
    ∙ header_of-more newest_read party f.head (f.claims ++ rest) header f.says)

-- what was written in front of the records of what was opened
abbrev pub front_behind : (party : ℕ) → Opened → List ℕ
front_behind party o = share_front party o.header (nonces_in o.claims)

-- and of these records
abbrev pub lines_behind : (party : ℕ) → Opened → List (List ℕ) → List ℕ
lines_behind party o = (words_dealt party o.shape).text

-- the share file of the batch is both
file-behind : (party : ℕ) (o : Opened) (first left : Option (List ℕ)) (opens : Opens (Some party) first left o) (rest : List ℕ) (records : List (List ℕ))
    → file_of party (opens.front ++ rest) (setting_of o) records ≡ front_behind party o ++ lines_behind party o records
file-behind party o first left opens rest records =
    ap (λ (h : Header). share_file party h o.shape (nonces_in o.claims) records) (header-front (Some party) o.shape opens.front rest o.header opens.begins)
    ∙ ap (λ (l : List ℕ). front_behind party o ++ l) (sym (lines_from-each (dealt_record party o.shape) [] records))

-- only version 1 is read, in which the bucket of each record is right
all-placed : (party : Option ℕ) (o : Opened) (rs : List (List ℕ)) → IsOpened party o → All (HasBucket o.shape) rs
all-placed party o rs is =
    let other : o.shape.version ≢ 2 = λ two. let no : ⊥ = omega (arith, two, is.shape.version, is.limits.most_version) in no in
    let some : 1 ≤ o.shape.buckets = omega (arith, is.shape.buckets, is.limits.least_buckets) in
    placed-one o.shape rs other some

placed-all : (s : Shape) (rs : List (List ℕ)) → All (HasBucket s) rs → placed s rs ≡ rs
placed-all s rs all = ap (placed s) (sym (append-nil rs)) ∙ (placed-behind s rs [] all ∙ append-nil rs)

-- ---- what was written

-- all of it
pub writes-behind : (party : ℕ) (o : Opened) (first left left' taken mid taken' : Option (List ℕ))
    → Opens (Some party) first left o → Appends taken mid (front_behind party o)
    → TellsOf Appends (bytes_of o.shape) o.header.reports (lines_behind party o) left left' mid taken'
    → WritesShare party first left' taken taken'
writes-behind party o first left left' taken mid taken' opens front all =
    let rest = concat all.records in
    let is = whole-behind (Some party) o first left opens all.records all.number all.sizes in
    let text = ap (file_of party (opens.front ++ rest) (setting_of o)) is.whole ∙ file-behind party o first left opens rest all.records in
    record {
      bytes = opens.front ++ rest;
      params = o.loaded.params;
      setting = setting_of o;
      read = Consumes-trans first left left' opens.front rest opens.read all.read;
      ended = all.ended;
      is_batch = is.is_batch;
      written = subst (Appends taken taken') (sym text) (Appends-trans taken mid taken' (front_behind party o) (lines_behind party o all.records) front all.written);
    }

-- a prefix of it, where all was read
late-behind : (party : ℕ) (o : Opened) (first left left' taken mid taken' : Option (List ℕ))
    → Opens (Some party) first left o → Appends taken mid (front_behind party o)
    → TellsOf TakesPrefix (bytes_of o.shape) o.header.reports (lines_behind party o) left left' mid taken'
    → StopsShare party first left' taken taken'
late-behind party o first left left' taken mid taken' opens front all =
    let rest = concat all.records in
    let is = whole-behind (Some party) o first left opens all.records all.number all.sizes in
    let text = ap (file_of party (opens.front ++ rest) (setting_of o)) is.whole ∙ file-behind party o first left opens rest all.records in
    record {
      bytes = opens.front ++ rest;
      read = Consumes-trans first left left' opens.front rest opens.read all.read;
      written = inr (record {
        params = o.loaded.params;
        setting = setting_of o;
        begins = is.is_batch.has;
        written = subst (TakesPrefix taken taken') (sym text) (TakesPrefix-after taken mid taken' (front_behind party o) (lines_behind party o all.records) front all.written);
      });
    }

-- a prefix of that of the whole records that were read
early-behind : (party : ℕ) (o : Opened) (first left left' taken mid taken' : Option (List ℕ))
    → Opens (Some party) first left o → Appends taken mid (front_behind party o)
    → Stops (bytes_of o.shape) o.header.reports (words_dealt party o.shape).line left left' mid taken'
    → StopsShare party first left' taken taken'
early-behind party o first left left' taken mid taken' opens front stop =
    let rs = stop.records in
    let f = dealt_record party o.shape in
    let rest = concat rs ++ stop.tail in
    let bytes = opens.front ++ rest in
    let others = placed o.shape (whole_of o.shape (o.header.reports - length rs) stop.tail) in
    let whole = whole_records-first newest_read (Some party) o.shape opens.front stop.tail o.header rs opens.begins stop.sizes (all-placed (Some party) o rs opens.is) stop.number in
    let more : lines_behind party o (rs ++ others) ≡ lines_behind party o rs ++ flat_map f others =
    lines_from-each f [] (rs ++ others) ∙ (flat_map-append f rs others ∙ ap (λ (l : List ℕ). l ++ flat_map f others) (sym (lines_from-each f [] rs))) in
    let text : file_of party bytes (setting_of o) (whole_records newest_read (Some party) o.shape bytes) ≡ front_behind party o ++ (lines_behind party o rs ++ flat_map f others) =
    ap (file_of party bytes (setting_of o)) whole ∙ (file-behind party o first left opens rest (rs ++ others) ∙ ap (λ (l : List ℕ). front_behind party o ++ l) more) in
    record {
      bytes = bytes;
      read = Consumes-trans first left left' opens.front rest opens.read stop.read;
      written = inr (record {
        params = o.loaded.params;
        setting = setting_of o;
        begins = behind (Some party) first left o opens rest;
        written = subst (TakesPrefix taken taken') (sym text)
            (TakesPrefix-after taken mid taken' (front_behind party o) (lines_behind party o rs ++ flat_map f others) front
            (TakesPrefix-more mid taken' (lines_behind party o rs) (flat_map f others) stop.written));
      });
    }

-- where the walk failed
pub stops-behind : {T : Type 0} (party : ℕ) (o : Opened) (first left left' taken mid taken' : Option (List ℕ)) (result : Result T EngineFault)
    → Opens (Some party) first left o → Appends taken mid (front_behind party o)
    → StopsWalk result (bytes_of o.shape) o.header.reports (words_dealt party o.shape) left left' mid taken'
    → StopsShare party first left' taken taken'
stops-behind party o first left left' taken mid taken' result opens front =
    ⊎_elim
    (λ early. early-behind party o first left left' taken mid taken' opens front early)
    (λ late. late-behind party o first left left' taken mid taken' opens front late.1)

-- where the front was not written whole
pub stops-front : (party : ℕ) (o : Opened) (first left taken taken' : Option (List ℕ))
    → Opens (Some party) first left o → TakesPrefix taken taken' (front_behind party o) → StopsShare party first left taken taken'
stops-front party o first left taken taken' opens front =
    let bytes = opens.front ++ [] in
    let records = whole_records newest_read (Some party) o.shape bytes in
    record {
      bytes = bytes;
      read = subst (Consumes first left) (sym (append-nil opens.front)) opens.read;
      written = inr (record {
        params = o.loaded.params;
        setting = setting_of o;
        begins = behind (Some party) first left o opens [];
        written = subst (TakesPrefix taken taken') (sym (file-behind party o first left opens [] records))
            (TakesPrefix-more taken taken' (front_behind party o) (lines_behind party o records) front);
      });
    }

-- where nothing was written
pub stops-none : (party : ℕ) (left left' taken : Option (List ℕ)) → ConsumesSome left left' → StopsShare party left left' taken taken
stops-none party left left' taken some = record { bytes = some.bytes; read = some.gone; written = inl (Keeps-refl taken) }

-- exactly that of all whole records that are settled, where the input has a fault
pub settles-behind : (party : ℕ) (o : Opened) (first left left' taken mid taken' : Option (List ℕ))
    → Opens (Some party) first left o → Appends taken mid (front_behind party o)
    → Settles o.shape o.header.reports (words_dealt party o.shape).line left left' mid taken'
    → SettlesShare party first left' taken taken'
settles-behind party o first left left' taken mid taken' opens written stop =
    let size = bytes_of o.shape in
    let n = o.header.reports in
    let rs = stop.records in
    let rest = concat rs ++ stop.tail in
    let bytes = opens.front ++ rest in
    let others = whole_of o.shape (n - length rs) stop.tail in
    let records = whole_records newest_read (Some party) o.shape bytes in
    let whole = whole_records-first newest_read (Some party) o.shape opens.front stop.tail o.header rs opens.begins stop.sizes (all-placed (Some party) o rs opens.is) stop.number in
    let more : length (placed o.shape others) ≡ min (n - length rs) (length stop.tail / size) =
    ap length (placed-all o.shape others (all-placed (Some party) o others opens.is)) ∙ length-pieces size (min (n - length rs) (length stop.tail / size)) stop.tail in
    let few : length rs ≤ n = stop.number in
    let number : length records ≡ min n (length rs + length stop.tail / size) = omega (arith, ap length whole ∙ length-append rs (placed o.shape others), more, few) in
    let front : take (length rs) records ≡ rs = ap (take (length rs)) whole ∙ take_at rs (placed o.shape others) (length rs) refl in
    let text = ap (file_of party bytes (setting_of o)) front ∙ file-behind party o first left opens rest rs in
    inr (record {
      bytes = bytes;
      params = o.loaded.params;
      setting = setting_of o;
      read = Consumes-trans first left left' opens.front rest opens.read stop.read;
      begins = behind (Some party) first left o opens rest;
      count = length rs;
      least = subst (λ (w : ℕ). settled o.shape w ≤ length rs) (sym number) stop.least;
      written = subst (Appends taken taken') (sym text) (Appends-trans taken mid taken' (front_behind party o) (lines_behind party o rs) written stop.written);
    })

-- ---- how it ended

-- a call that wrote before it, and did not fail there
pub ends-behind : {T : Type 0} (is_fault : List ℕ → EngineFault → Type 0) (takes : Option (List ℕ) → Option (List ℕ) → Type 0) (left left' : Option (List ℕ)) (reads reads' writes writes' writes'' : ℕ) (result : Result T EngineFault)
    → writes ≤ writes' → Ends is_fault takes left left' reads reads' writes' writes'' result → Ends is_fault takes left left' reads reads' writes writes'' result
ends-behind is_fault takes left left' reads reads' writes writes' writes'' result later ends = record {
  fault = ends.fault;
  few = ends.few;
  read = ends.read;
  write = λ is. let rose = ends.write is in omega (arith, later, rose);
  later_in = ends.later_in;
  later_out = omega (arith, later, ends.later_out);
}
