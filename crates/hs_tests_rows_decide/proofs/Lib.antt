mod Flat
