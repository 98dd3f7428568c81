-- The marked readings, proved together from the definitions by computing them.
use mathlib.Core.Path.{refl}
use lib.Ieee.{of_int, of_bits, to_bits, to_unsigned, lt, le, eq, add, sub, mul, div, is_nan}
use Rattle.definitions.specs.Floats.{total_key}
use Rattle.definitions.specs.Bins.{bins, regular_index, last_edge, irregular_index, find, bin_of}
use Rattle.definitions.specs.Run.{scratch_of, scratch}
use Rattle.definitions.specs.Segments.{segment_start}
use Rattle.definitions.specs.Rules.{accepted, step}
use Rattle.definitions.specs.Records.{entry_run, curve_pack, curve_text}
use Rattle.definitions.specs.Readings.{int, box, one_bin, unit_widths, lone, auto_offsets, cross_offsets, file_of, k10_points, k10_edges, MarkedReadings, thin_widths, DirectedReadings}

pub marked_readings : MarkedReadings
unfolding int of_int of_bits to_bits to_unsigned lt le eq add sub mul div is_nan total_key bins regular_index last_edge irregular_index find bin_of box one_bin unit_widths lone auto_offsets cross_offsets segment_start scratch_of scratch accepted step file_of k10_points k10_edges entry_run curve_pack curve_text
marked_readings = record {
  K1 = refl;
  K2 = (refl, refl);
  K3 = refl;
  K4 = refl;
  K5 = refl;
  K6 = (refl, refl, refl);
  K7 = refl;
  K8 = refl;
  K9 = refl;
  K10 = refl;
  K11 = (refl, refl);
  K12 = refl;
}

pub directed_readings : DirectedReadings
unfolding int of_int of_bits to_bits add mul box thin_widths
directed_readings = record { order = refl }
