-- Appends to a folder join: nothing changes nothing, and two texts one after the other are their join.
use Rattle.std.proofs.Common.{◌≡◌, ℕ, ◌+◌, Bool, true, false, cond, List, [], ◌++◌, length, Option, None, Some, option_map, Result, Ok, Err, refl, sym, ◌∙◌, ap, append_assoc, length-append, arith}
use Rattle.std.proofs.lemmas.List.{append-nil}
use Rattle.std.specs.Prelude.{⊤}
use Rattle.std.specs.Ordering.{nat_cmp, eq_by_cmp}
use Rattle.std.specs.Cmp.{Equal-is, tied_itself}
use Rattle.std.specs.Cmp.Lexicographic.{slice_cmp, nat_list_cmp_total}
use Rattle.std.specs.FinMap as map
use Rattle.zim_gate.specs.declared.stops.Failed.{Failed}
use Rattle.zim_gate.specs.Counts.{count_on}
use Rattle.zim_gate.proofs.Counting.{Rose-from, IsFrontOf-longer, IsFrontOf-after}
use Rattle.zim_gate.specs.Folder.{HeldFiles, FolderState, Appends, Puts, put_to, appended_to}

-- two folders' files that answer alike are the same
same_files : (a b : HeldFiles) → ((q : List ℕ) → map.get a q ≡ map.get b q) → a ≡ b
same_files a b h = map.same_map nat_list_cmp_total (map.slice_cmp-IsAntisymmetric map.nat_cmp-IsAntisymmetric) a b h

-- what a name holds after an insert
pub get_after : (files : HeldFiles) (name bytes q : List ℕ) →
    map.get (map.insert files name bytes) q ≡ cond (eq_by_cmp (slice_cmp nat_cmp) q name) (Some bytes) (map.get files q)
get_after files name bytes q = map.get-insert nat_list_cmp_total files name bytes q

-- a name that ties with another holds the same
get_tied : (files : HeldFiles) (q name : List ℕ) → eq_by_cmp (slice_cmp nat_cmp) q name ≡ true → map.get files name ≡ map.get files q
get_tied files q name e = map.get_tied nat_list_cmp_total files q name ((Equal-is (slice_cmp nat_cmp q name)).0 e)

-- a test that picks what is there anyway picks nothing new
picks_same : {A : Type 0} (b : Bool) (x y : A) → (b ≡ true → x ≡ y) → cond b x y ≡ y
picks_same true x y h = h refl
picks_same false x y h = refl

-- to insert what a name holds changes nothing
pub insert_own : (files : HeldFiles) (name bytes : List ℕ) → map.get files name ≡ Some bytes → map.insert files name bytes ≡ files
insert_own files name bytes e =
    same_files _ files (λ q. get_after files name bytes q
    ∙ picks_same (eq_by_cmp (slice_cmp nat_cmp) q name) (Some bytes) (map.get files q) (λ t. sym e ∙ get_tied files q name t))

-- a test that is asked twice
picks_again : {A : Type 0} (b : Bool) (x y z : A) → cond b x (cond b y z) ≡ cond b x z
picks_again true x y z = refl
picks_again false x y z = refl

-- of two inserts at a name the last counts
pub insert_again : (files : HeldFiles) (name old new : List ℕ) → map.insert (map.insert files name old) name new ≡ map.insert files name new
insert_again files name old new =
    same_files _ _ (λ q. get_after (map.insert files name old) name new q
    ∙ ap (cond (eq_by_cmp (slice_cmp nat_cmp) q name) (Some new)) (get_after files name old q)
    ∙ picks_again (eq_by_cmp (slice_cmp nat_cmp) q name) (Some new) (Some old) (map.get files q)
    ∙ sym (get_after files name new q))

-- a name ties with itself
tied_own : (name : List ℕ) → eq_by_cmp (slice_cmp nat_cmp) name name ≡ true
tied_own name = (Equal-is (slice_cmp nat_cmp name name)).1 (tied_itself nat_list_cmp_total name)

-- what is inserted is held
pub get_inserted : (files : HeldFiles) (name bytes : List ℕ) → map.get (map.insert files name bytes) name ≡ Some bytes
get_inserted files name bytes =
    get_after files name bytes name ∙ ap (λ b. cond b (Some bytes) (map.get files name)) (tied_own name)

-- to append nothing changes nothing
appended_nothing : (name : List ℕ) (files : HeldFiles) (held : Option (List ℕ)) → map.get files name ≡ held → appended_to name [] files held ≡ files
appended_nothing name files None e = refl
appended_nothing name files (Some old) e = ap (map.insert files name) (append-nil old) ∙ insert_own files name old e

-- to put nothing changes no file
pub put_to-nothing : (begun : Option (List ℕ)) (files : HeldFiles) → put_to begun [] files ≡ files
put_to-nothing None files = refl
put_to-nothing (Some name) files = appended_nothing name files (map.get files name) refl

-- an append of two texts is an append of one and then of the other
appended_both : (name x y : List ℕ) (files : HeldFiles) (held : Option (List ℕ)) → map.get files name ≡ held →
    appended_to name (x ++ y) files held ≡ put_to (Some name) y (appended_to name x files held)
appended_both name x y files None e = ap (appended_to name y files) (sym e)
appended_both name x y files (Some old) e =
    ap (map.insert files name) (sym (append_assoc old x y)) ∙ sym (insert_again files name (old ++ x) ((old ++ x) ++ y))
    ∙ ap (appended_to name y (map.insert files name (old ++ x))) (sym (get_inserted files name (old ++ x)))

-- to put two texts is to put one and then the other
pub put_to-both : (begun : Option (List ℕ)) (x y : List ℕ) (files : HeldFiles) → put_to begun (x ++ y) files ≡ put_to begun y (put_to begun x files)
put_to-both None x y files = refl
put_to-both (Some name) x y files = appended_both name x y files (map.get files name) refl

-- a count that goes on by nothing stays
count_on-zero : (count : ℕ) → count_on 0 count ≡ count
count_on-zero count = omega arith

-- a count goes on by a sum as it goes on by its parts
count_on-sum : (m n count : ℕ) → count_on (m + n) count ≡ count_on n (count_on m count)
count_on-sum m n count = omega arith

-- a change that does nothing does nothing to what is told
map_nothing : {A : Type 0} (f : A → A) (o : Option A) → ((x : A) → f x ≡ x) → o ≡ option_map f o
map_nothing f None h = refl
map_nothing f (Some x) h = ap Some (sym (h x))

-- two changes one after the other, at what is told
map_both : {A : Type 0} (f g h : A → A) (o : Option A) → ((x : A) → h x ≡ g (f x)) → option_map g (option_map f o) ≡ option_map h o
map_both f g h None e = refl
map_both f g h (Some x) e = ap Some (sym (e x))

-- a folder as it is had nothing appended
pub Appends-nothing : (s : FolderState) → Appends s s []
Appends-nothing s = record {
  held = map_nothing (put_to s.begun []) s.held (put_to-nothing s.begun);
  wrote = map_nothing (count_on 0) s.wrote count_on-zero;
  rest = refl;
  begun = refl;
  read_faults = refl;
  write_faults = omega arith;
  faultless_below = refl;
}

-- two appends are one of their join
pub Appends-both : (a b c : FolderState) (x y : List ℕ) → Appends a b x → Appends b c y → Appends a c (x ++ y)
Appends-both a b c x y p q = record {
  held = q.held ∙ ap (λ n. option_map (put_to n y) b.held) p.begun ∙ ap (option_map (put_to a.begun y)) p.held
      ∙ map_both (put_to a.begun x) (put_to a.begun y) (put_to a.begun (x ++ y)) a.held (put_to-both a.begun x y);
  wrote = q.wrote ∙ ap (option_map (count_on (length y))) p.wrote
      ∙ map_both (count_on (length x)) (count_on (length y)) (count_on (length (x ++ y))) a.wrote
      (λ n. ap (λ k. count_on k n) (length-append x y) ∙ count_on-sum (length x) (length y) n);
  rest = q.rest ∙ p.rest;
  begun = q.begun ∙ p.begun;
  read_faults = q.read_faults ∙ p.read_faults;
  write_faults = omega (arith, p.write_faults, q.write_faults);
  faultless_below = q.faultless_below ∙ p.faultless_below;
}

-- a put of nothing
pub Puts-nothing : (s : FolderState) → Puts s s [] (Ok tt)
Puts-nothing s = record { ok = Appends-nothing s; err = tt }

-- a put that went well and one after it are one of both texts
pub Puts-both : (a b c : FolderState) (x y : List ℕ) (r : Result ⊤ Failed) → Puts a b x (Ok tt) → Puts b c y r → Puts a c (x ++ y) r
Puts-both a b c x y (Ok _) p q = record { ok = Appends-both a b c x y p.ok q.ok; err = tt }
Puts-both a b c x y (Err _) p q = record {
  ok = tt;
  err = record {
    bytes = x ++ q.err.bytes;
    front = IsFrontOf-after x q.err.bytes y q.err.front;
    appends = Appends-both a b c x q.err.bytes p.ok q.err.appends;
    rose = Rose-from a.write_faults b.write_faults c.write_faults p.ok.write_faults q.err.rose;
  };
}

-- a put that stopped has stopped in each longer text
pub Puts-stopped : (a b : FolderState) (x y : List ℕ) (e : Failed) → Puts a b x (Err e) → Puts a b (x ++ y) (Err e)
Puts-stopped a b x y e p = record {
  ok = tt;
  err = record {
    bytes = p.err.bytes;
    front = IsFrontOf-longer p.err.bytes x y p.err.front;
    appends = p.err.appends;
    rose = p.err.rose;
  };
}
