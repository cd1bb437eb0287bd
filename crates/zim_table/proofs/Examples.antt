-- Tables of small models as they are written.
use Rattle.std.proofs.Common.{◌≡◌, ℕ, List, [], ◌∷◌, true, false, Some, None, refl, pos, negsuc}
use Rattle.std.specs.Prelude.{codes}
use Rattle.std.specs.Fmt.{digits}
use Rattle.std.specs.List.{range_with_len}
use Rattle.zim_rational.specs.Gcd.{gcd, euclid}
use Rattle.zim_rational.specs.Rational.{ratio, whole, zero, same}
use Rattle.zim_rows.specs.declared.rows.Column.{Column}
use Rattle.zim_rows.specs.declared.rows.Target.{Target}
use Rattle.zim_rows.specs.declared.rows.RowKind.TheVariants.{One}
use Rattle.zim_rows.specs.declared.rows.Sense.TheVariants.{AtMost}
use Rattle.zim_rows.specs.Program.{LinearProgram}
use Rattle.zim_tuples.specs.declared.elements.Elem.TheVariants.{Number, Text}
use Rattle.zim_columns.specs.declared.declared.Declared.{Declared}
use Rattle.zim_table.specs.Text.{element_text, table_text}

abbrev any_column : Column
any_column = record { integer = false; sides = record { low = None; high = None } }

abbrev no_objective : Target
no_objective = record { maximize = false; place = None; factor = pos 1; terms = []; constant = zero }

-- 1/3 x + 1/2 y <= 1/7 is written times 21
abbrev thirds : LinearProgram
thirds = record {
  columns = any_column ∷ any_column ∷ [];
  rows = record {
    from = record { statement = 2; place = record { file = 0; line = 1 } };
    factor = pos 21;
    terms = (1, whole (pos 7)) ∷ (2, ratio (pos 21) 2) ∷ [];
    kind = One AtMost (whole (pos 3));
  } ∷ [];
  target = no_objective;
}

-- a variable without an index
abbrev plain : ℕ → List ℕ → Declared
plain j name = record { name = name; tuple = []; column = j; priority = None; startval = None }

thirds_text : table_text thirds (plain 1 (codes "x") ∷ plain 2 (codes "y") ∷ []) (record { statements = codes "x" ∷ codes "y" ∷ codes "t" ∷ []; objective = None }) ≡ codes "zimplc table 1\nfactor lp 1\nfactor mps 1\nobjective none\ncolumn x1 x\ncolumn x2 y\nrow r1 t 1 21\nend\n"
unfolding same zero whole digits
thirds_text = refl

-- 2/3 x + 5 is maximised times 3, and its constant is the cost of `one`
abbrev profit : LinearProgram
profit = record {
  columns = any_column ∷ [];
  rows = [];
  target = record {
    maximize = true;
    place = Some (record { file = 0; line = 1 });
    factor = pos 3;
    terms = (1, whole (pos 2)) ∷ [];
    constant = whole (pos 15);
  };
}

profit_text : table_text profit (plain 1 (codes "x") ∷ []) (record { statements = codes "x" ∷ codes "p" ∷ []; objective = Some 1 }) ≡ codes "zimplc table 1\nfactor lp 3\nfactor mps -3\nobjective maximize p\ncolumn x1 x\noffset one\nend\n"
unfolding same zero whole digits
profit_text = refl

-- a tuple of a number and a string, with details; a helper behind it; a column of a fraction, and one without a tuple; an offset
abbrev kinds : LinearProgram
kinds = record {
  columns = any_column ∷ any_column ∷ any_column ∷ any_column ∷ [];
  rows = [];
  target = record {
    maximize = false;
    place = Some (record { file = 0; line = 1 });
    factor = pos 1;
    terms = [];
    constant = whole (pos 5);
  };
}

abbrev kinds_declared : List Declared
kinds_declared =
    record {
      name = codes "x";
      tuple = Number (whole (pos 1)) ∷ Text (codes "a b%\"") ∷ [];
      column = 1;
      priority = Some (whole (pos 10));
      startval = Some (ratio (pos 1) 2);
    }
    ∷ record { name = codes "y"; tuple = Number (ratio (negsuc 2) 2) ∷ []; column = 3; priority = None; startval = Some (whole (negsuc 0)) }
    ∷ plain 4 (codes "z")
    ∷ []

kinds_text : table_text kinds kinds_declared (record { statements = codes "x" ∷ codes "y" ∷ codes "z" ∷ codes "c" ∷ []; objective = Some 3 }) ≡ codes "zimplc table 1\nfactor lp 1\nfactor mps 1\nobjective minimize c\ncolumn x1 x <1,\"a%20b%25%22\">\npriority x1 10\nstartval x1 1/2\nhelper x2\ncolumn x3 y <-3/2>\nstartval x3 -1\ncolumn x4 z\noffset one\nend\n"
unfolding same zero whole ratio digits gcd euclid
kinds_text = refl

-- a string of all bytes
all_bytes_text : element_text (Text (range_with_len 0 256)) ≡ codes "\"%00%01%02%03%04%05%06%07%08%09%0A%0B%0C%0D%0E%0F%10%11%12%13%14%15%16%17%18%19%1A%1B%1C%1D%1E%1F%20!%22#$%25&'()*+,-./0123456789:;<=>?@ABCDEFGHIJKLMNOPQRSTUVWXYZ[\\]^_`abcdefghijklmnopqrstuvwxyz{|}~%7F%80%81%82%83%84%85%86%87%88%89%8A%8B%8C%8D%8E%8F%90%91%92%93%94%95%96%97%98%99%9A%9B%9C%9D%9E%9F%A0%A1%A2%A3%A4%A5%A6%A7%A8%A9%AA%AB%AC%AD%AE%AF%B0%B1%B2%B3%B4%B5%B6%B7%B8%B9%BA%BB%BC%BD%BE%BF%C0%C1%C2%C3%C4%C5%C6%C7%C8%C9%CA%CB%CC%CD%CE%CF%D0%D1%D2%D3%D4%D5%D6%D7%D8%D9%DA%DB%DC%DD%DE%DF%E0%E1%E2%E3%E4%E5%E6%E7%E8%E9%EA%EB%EC%ED%EE%EF%F0%F1%F2%F3%F4%F5%F6%F7%F8%F9%FA%FB%FC%FD%FE%FF\""
all_bytes_text = refl
