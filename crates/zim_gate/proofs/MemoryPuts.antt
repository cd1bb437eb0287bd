-- What a put does to a folder in memory.
use Rattle.std.proofs.Common.{◌≡◌, ℕ, ◌≤◌, Bool, true, false, List, [], ◌∷◌, ◌++◌, min, length, take, drop, Option, Some, Ok, Err, IsSome, IsTrue, option_and_then, unwrap_or, ◌-◌, ◌==◌, nat_le, refl, sym, ap, ◌∙◌, subst, arith, inl, inr}
use Rattle.std.proofs.lemmas.List.{take-append-drop, length-take-le, append-nil}
use Rattle.std.proofs.Math.ListN.{drop_of_length-le}
use Rattle.std.proofs.lemmas.Bool.{cases_lt, and_parts, eqb-true}
use Rattle.zim_gate.specs.declared.stops.Failed.{Failed}
use Rattle.zim_gate.specs.declared.stored.Stored.{Stored}
use Rattle.zim_gate.specs.Counts.{Rose, count_on}
use Rattle.zim_gate.specs.Folder.{FolderState, Appends, Puts, put_to, appended_to, bytes_of_name}
use Rattle.zim_gate.specs.Stored.{files_of, first_appended, begun_name, is_ready, room_left}
use Rattle.zim_gate.proofs.AppendingLaws.{Appends-nothing, insert_again, get_inserted}

-- what is known of a folder in memory, by its parts
abbrev pub known : Bool → List Stored → List ℕ → ℕ → ℕ → ℕ → Option ℕ → FolderState
known begun files rest wrote read_faults write_faults promise = record {
  held = Some (files_of files);
  rest = Some rest;
  begun = begun_name begun files;
  wrote = Some wrote;
  read_faults = read_faults;
  write_faults = write_faults;
  faultless_below = promise;
}

-- to append to the first file is to put to the name that is begun
held_after : (begun : Bool) (files : List Stored) (bytes : List ℕ) → IsSome (begun_name begun files) →
    files_of (first_appended files bytes) ≡ put_to (begun_name begun files) bytes (files_of files)
held_after true (file ∷ files) bytes some =
    sym (ap (appended_to file.name bytes (files_of (file ∷ files))) (get_inserted (files_of files) file.name file.content.bytes)
    ∙ insert_again (files_of files) file.name file.content.bytes (file.content.bytes ++ bytes))
held_after true [] bytes some = cc
held_after false files bytes some = cc

-- the name that is begun stays
name_after : (begun : Bool) (files : List Stored) (bytes : List ℕ) → begun_name begun (first_appended files bytes) ≡ begun_name begun files
name_after true (file ∷ files) bytes = refl
name_after true [] bytes = refl
name_after false files bytes = refl

-- the room that is left of the first file is that of the file that is begun
pub room_is : (begun : Bool) (files : List Stored) (room wrote : ℕ) → IsTrue (is_ready begun files room wrote) → IsSome (begun_name begun files) →
    room - length (unwrap_or (option_and_then (bytes_of_name (Some (files_of files))) (begun_name begun files)) []) ≡ room_left files
room_is true (file ∷ files) room wrote ready some =
    ap (λ held. room - length (unwrap_or held [])) (get_inserted (files_of files) file.name file.content.bytes)
    ∙ ap (λ r. r - length file.content.bytes) (sym (eqb-true file.content.room room (and_parts (file.content.room == room) (nat_le (length file.content.bytes) wrote) ready).0))
room_is true [] room wrote ready some = cc
room_is false files room wrote ready some = cc

-- a front that is as long as the list is the list
take_whole : (piece : List ℕ) (n : ℕ) → length piece ≤ n → take n piece ≡ piece
take_whole piece n h = sym (append-nil (take n piece)) ∙ ap (λ rest. take n piece ++ rest) (sym (drop_of_length-le piece h)) ∙ take-append-drop n piece

-- what fits of a piece: its front of so many bytes
fitting : (piece : List ℕ) (left count : ℕ) → count ≡ min (length piece) left → take count piece ≡ take left piece
fitting piece left count e = elim (cases_lt left (length piece)) [
  | inl below ↦ ap (λ k. take k piece) (omega (arith, e))
  | inr past ↦ take_whole piece count (omega (arith, e)) ∙ sym (take_whole piece left past)
]

module _ (begun : Bool) (files : List Stored) (rest : List ℕ) (wrote read_faults write_faults : ℕ) (promise : Option ℕ) where
  -- a put that is refused before it appends
  pub memory_refuses : (piece : List ℕ) (faults : ℕ) (kept : Option ℕ) (e : Failed) → write_faults ≤ faults → Rose write_faults faults → kept ≡ promise →
      Puts (known begun files rest wrote read_faults write_faults promise) (known begun files rest wrote read_faults faults kept) piece (Err e)
  memory_refuses piece faults kept e more rose same = record {
    ok = tt;
    err = record {
      bytes = [];
      front = record { rest = piece; whole = refl };
      appends =
          let nothing = Appends-nothing (known begun files rest wrote read_faults write_faults promise) in
          record {
            held = nothing.held;
            wrote = nothing.wrote;
            rest = refl;
            begun = refl;
            read_faults = refl;
            write_faults = more;
            faultless_below = same;
          };
      rose = rose;
    };
  }

  module _ (now : List Stored) (piece : List ℕ) (left count v faults : ℕ) (kept : Option ℕ) (some : IsSome (begun_name begun files))
      (is : now ≡ first_appended files (take count piece)) (counts : count ≡ min (length piece) left) (counted : v ≡ count_on count wrote)
      (more : write_faults ≤ faults) (same : kept ≡ promise) where
    -- a put appends the bytes that it counts
    appends_counted : Appends (known begun files rest wrote read_faults write_faults promise) (known begun now rest v read_faults faults kept) (take count piece)
    appends_counted =
        let within : count ≤ length piece = omega (arith, counts) in
        record {
          held = ap Some (ap files_of is ∙ held_after begun files (take count piece) some);
          wrote = ap Some (counted ∙ ap (λ k. count_on k wrote) (sym (length-take-le count piece within)));
          rest = refl;
          begun = ap (begun_name begun) is ∙ name_after begun files (take count piece);
          read_faults = refl;
          write_faults = more;
          faultless_below = same;
        }

    -- a put appends what fits in the room that is left
    pub memory_fits : (room : ℕ) → room ≡ left →
        Appends (known begun files rest wrote read_faults write_faults promise) (known begun now rest v read_faults faults kept) (take room piece)
    memory_fits room is_left =
        subst (λ bytes. Appends (known begun files rest wrote read_faults write_faults promise) (known begun now rest v read_faults faults kept) bytes)
        (fitting piece room count (counts ∙ ap (min (length piece)) (sym is_left))) appends_counted

    -- a put that passes the room stops
    pub memory_stops : (e : Failed) → Rose write_faults faults →
        Puts (known begun files rest wrote read_faults write_faults promise) (known begun now rest v read_faults faults kept) piece (Err e)
    memory_stops e rose = record {
      ok = tt;
      err = record {
        bytes = take count piece;
        front = record { rest = drop count piece; whole = take-append-drop count piece };
        appends = appends_counted;
        rose = rose;
      };
    }

    -- a put that fits appends the piece
    pub memory_takes : length piece ≤ count →
        Puts (known begun files rest wrote read_faults write_faults promise) (known begun now rest v read_faults faults kept) piece (Ok tt)
    memory_takes all = record {
      ok = subst (λ bytes. Appends (known begun files rest wrote read_faults write_faults promise) (known begun now rest v read_faults faults kept) bytes)
          (take_whole piece count all) appends_counted;
      err = tt;
    }
