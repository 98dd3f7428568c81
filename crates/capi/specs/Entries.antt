-- What a flat call's numbers and slices stand for in the definitions.
use Rattle.std.specs.Prelude.{List, ℕ, ℤ, Float}
use Rattle.definitions.specs.Points.{UnstructuredPoints}
use Rattle.definitions.specs.Blocks.{CartesianBlock, CellWidth}
use Rattle.definitions.specs.Run.{Sets, Run}
use Rattle.parallel_serial.specs.declared.Shape.{Shape}
use Rattle.reducer.specs.Readings.{op_of}
use Rattle.capi_words.specs.Words.{edges_from, kind_from, op_from, stride_from}

abbrev pub points_from : (n stated stride : ℕ) → (positions values weights : List Float) → UnstructuredPoints
points_from n stated stride p v w = record { count = n; stated = stride_from stated stride; positions = p; values = v; weights = w }

abbrev pub block_from : (nz ny nx sz sy sx : ℕ) → (gz gy gx : ℤ) → (c0 c1 c2 weights : List Float) → CartesianBlock
block_from nz ny nx sz sy sx gz gy gx c0 c1 c2 w =
    record {
      nz = nz;
      ny = ny;
      nx = nx;
      sz = sz;
      sy = sy;
      sx = sx;
      gz = gz;
      gy = gy;
      gx = gx;
      comp0 = c0;
      comp1 = c1;
      comp2 = c2;
      weights = w;
    }

abbrev pub width_from : (z y x : Float) → CellWidth
width_from z y x = record { wz = z; wy = y; wx = x }

abbrev pub shape_from : (states size members teams : ℕ) → Shape
shape_from states size members teams = record { pack = record { n_states = states; state_size = size }; members = members; teams = teams }

-- a run over these sets: the distance edges, the form, a histogram's value edges, the operation, and the shape
abbrev pub run_from : Sets → (irregular : ℕ) → (min max : Float) → (n : ℕ) → (list : List Float)
    → (form value_irregular : ℕ) → (value_min value_max : Float) → (value_n : ℕ) → (value_list : List Float)
    → (subtract states size members teams : ℕ) → Run
run_from sets irregular min max n list form value_irregular value_min value_max value_n value_list subtract states size members teams =
    record {
      sets = sets;
      op = op_of (op_from subtract);
      kind = kind_from form (edges_from value_irregular value_min value_max value_n value_list);
      edges = edges_from irregular min max n list;
      states = states;
      size = size;
      members = members;
      teams = teams;
    }
