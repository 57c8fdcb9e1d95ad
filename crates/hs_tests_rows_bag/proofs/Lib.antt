mod Bound
